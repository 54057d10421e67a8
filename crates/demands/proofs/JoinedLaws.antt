-- Joined strings are equal in their parts where the parts are of one length.
use mathlib.Core.Path.{◌≡◌, refl, sym, ap, ◌∙◌}
use mathlib.Core.List.{◌++◌}
use Prim.Native.Nat.{ℕ, zero, suc, ◌<◌}
use native.Mathlib.Decide.{dec_lt}
use native.Mathlib.Omega.{arith}
use lib.ListN.{length, take, drop, length-append}
use lib.Seq.{take_at, drop_at}
use Rattle.slices.specs.Slices.{Bytes, joined}
use Rattle.circuit.specs.Round.{Party, party0, party1, party2}
use Rattle.views.specs.Parties.{three}
use Rattle.views.specs.Input.{by_round}

module _ (a a' b b' : Bytes) (l : length a ≡ length a') (e : a ++ b ≡ a' ++ b') where
  pub front : a ≡ a'
  front = sym (take_at a b (length a) refl) ∙ (ap (take (length a)) e ∙ take_at a' b' (length a) (sym l))

  pub back : b ≡ b'
  back = sym (drop_at a b (length a) refl) ∙ (ap (drop (length a)) e ∙ drop_at a' b' (length a) (sym l))

-- ---- three parties

module _ (f g : Party → Bytes) (h : (j : Party) → length (f j) ≡ length (g j)) where
  length_three : length (three f) ≡ length (three g)
  length_three =
      omega (
        arith,
        length-append (f party0) (f party1 ++ f party2),
        length-append (f party1) (f party2),
        length-append (g party0) (g party1 ++ g party2),
        length-append (g party1) (g party2),
        h party0,
        h party1,
        h party2,
      )

  same_three : three f ≡ three g → (j : Party) → f j ≡ g j
  same_three e = elim [
    | party0 ↦ front (f party0) (g party0) _ _ (h party0) e
    | party1 ↦ front (f party1) (g party1) _ _ (h party1) (back (f party0) (g party0) _ _ (h party0) e)
    | party2 ↦ back (f party1) (g party1) _ _ (h party1) (back (f party0) (g party0) _ _ (h party0) e)
  ]

-- ---- by round and party

-- in each of k rounds, each party's are of one length
abbrev pub Alike : ℕ → (f g : ℕ → Party → Bytes) → Type 0
Alike k f g = (i : ℕ) → i < k → (j : Party) → length (f i j) ≡ length (g i j)

module _ (f g : ℕ → Party → Bytes) where
  pub length-by_round : (k : ℕ) → Alike k f g → length (by_round k f) ≡ length (by_round k g)
  unfolding by_round joined
  length-by_round zero h = refl
  length-by_round (suc k) h =
      omega (
        arith,
        length-append (by_round k f) (three (f k)),
        length-append (by_round k g) (three (g k)),
        length-by_round k (λ i l. h i (omega arith)),
        length_three (f k) (g k) (h k (omega arith)),
      )

  pub same_by_round : (k : ℕ) → Alike k f g → by_round k f ≡ by_round k g → (i : ℕ) → i < k → (j : Party) → f i j ≡ g i j
  unfolding by_round joined
  same_by_round zero h e i l j = absurd (omega arith)
  same_by_round (suc k) h e i l j = elim (dec_lt i k) [
    | yes m ↦ same_by_round k h' (front (by_round k f) (by_round k g) _ _ (length-by_round k h') e) i m j
    | no n ↦
        let q : i ≡ k = omega arith in
        rw q (same_three (f k) (g k) (h k (omega arith)) (back (by_round k f) (by_round k g) _ _ (length-by_round k h') e) j)
  ]
    where
      h' : Alike k f g
      h' i m = h i (omega arith)
