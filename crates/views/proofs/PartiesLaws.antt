-- Laws of three parties in a row: what stands at each party's place.
use mathlib.Core.Path.{◌≡◌, refl}
use Prim.Native.Nat.{ℕ, zero, suc, ◌<◌}
use native.Mathlib.Omega.{arith}
use Rattle.circuit.specs.Round.{Party, party0, party1, party2, next, third}
use Rattle.circuit.specs.Tapes.{party_number}
use Rattle.views.specs.Parties.{party_of, from_party}

module _ {A : Type 0} where
  pub at_first : (e : Party) (x y z : A) → from_party e x y z e ≡ x
  at_first party0 x y z = refl
  at_first party1 x y z = refl
  at_first party2 x y z = refl

  pub at_second : (e : Party) (x y z : A) → from_party e x y z (next e) ≡ y
  at_second party0 x y z = refl
  at_second party1 x y z = refl
  at_second party2 x y z = refl

  pub at_third : (e : Party) (x y z : A) → from_party e x y z (third e) ≡ z
  at_third party0 x y z = refl
  at_third party1 x y z = refl
  at_third party2 x y z = refl

  pub at_each : (e : Party) (g : Party → A) {x y z : A} → x ≡ g e → y ≡ g (next e) → z ≡ g (third e) → (j : Party) → from_party e x y z j ≡ g j
  at_each party0 g a b c = elim [ party0 ↦ a | party1 ↦ b | party2 ↦ c ]
  at_each party1 g a b c = elim [ party0 ↦ c | party1 ↦ a | party2 ↦ b ]
  at_each party2 g a b c = elim [ party0 ↦ b | party1 ↦ c | party2 ↦ a ]

  pub all_three : (P : A → Type 0) (e : Party) {x y z : A} → P x → P y → P z → (j : Party) → P (from_party e x y z j)
  all_three P party0 a b c = elim [ party0 ↦ a | party1 ↦ b | party2 ↦ c ]
  all_three P party1 a b c = elim [ party0 ↦ c | party1 ↦ a | party2 ↦ b ]
  all_three P party2 a b c = elim [ party0 ↦ b | party1 ↦ c | party2 ↦ a ]

-- a challenge value is the number of its party
pub number_of : (e : ℕ) → e < 3 → e ≡ party_number (party_of e)
number_of zero h = refl
number_of (suc zero) h = refl
number_of (suc (suc zero)) h = refl
number_of (suc (suc (suc e))) h = absurd (omega arith)
