-- Laws of the refusals' numbers and of ordered checks.
use mathlib.Core.Path.{◌≡◌, refl}
use mathlib.Core.Bool.{Bool, true, false, cond}
use mathlib.Core.List.{List, [], ◌∷◌, ◌++◌}
use Prim.Native.Nat.{ℕ, ◌^◌, ◌≤◌, ◌<◌}
use native.Mathlib.Omega.{arith}
use lib.Dec.{lit≤}
use Rattle.std.proofs.Common.{Ok, Err}
use Rattle.answers.specs.declared.Refusal.{Refusal}
use Rattle.answers.specs.declared.Refusal.TheVariants.{NoSet, Table, Key, Message, Limit, Room, Pair, Blocks, Length, Header, Padding, Differs}
use Rattle.answers.specs.Answers.{Checked, Fine, fine, number, code, Check, when, first, answer, Halves}

-- ---- numbers

-- no refusal has the number 0
pub number-least : (r : Refusal) → 1 ≤ number r
number-least NoSet = lit≤ tt
number-least Table = lit≤ tt
number-least Key = lit≤ tt
number-least Message = lit≤ tt
number-least Limit = lit≤ tt
number-least Room = lit≤ tt
number-least Pair = lit≤ tt
number-least Blocks = lit≤ tt
number-least Length = lit≤ tt
number-least Header = lit≤ tt
number-least Padding = lit≤ tt
number-least Differs = lit≤ tt

-- so 0 is that of nothing refused
pub zero_is : (c : Checked) → code c ≡ 0 → c ≡ Fine
zero_is (Ok done) e = refl
zero_is (Err r) e = absurd (omega (arith, number-least r))

pub fine_is : (c : Checked) → fine c ≡ true → c ≡ Fine
fine_is (Ok done) e = refl
fine_is (Err r) e = cc

-- ---- the first check that holds

-- a check that holds is answered
pub stop : (b : Bool) (r : Refusal) (ks : List Check) → b ≡ true → first (when b r ∷ ks) ≡ Err r
unfolding first
stop b r ks e = rw e

-- one that does not is passed
pub skip : (b : Bool) (r : Refusal) (ks : List Check) → b ≡ false → first (when b r ∷ ks) ≡ first ks
unfolding first
skip b r ks e = rw e

stop-one : (b : Bool) (g r : Refusal) (x z : Checked) → (x ≡ Err r → z ≡ Err r) → cond b (Err g) x ≡ Err r → cond b (Err g) z ≡ Err r
stop-one true g r x z h e = e
stop-one false g r x z h e = h e

-- of two groups of checks the first refuses
pub group_stop : (xs ys : List Check) {r : Refusal} → first xs ≡ Err r → first (xs ++ ys) ≡ Err r
unfolding first
group_stop [] ys {r} e = cc
group_stop (k ∷ xs) ys {r} e = stop-one k.holds k.gives r (first xs) (first (xs ++ ys)) (group_stop xs ys) e

skip-one : (b : Bool) (g : Refusal) (x y z : Checked) → (x ≡ Fine → z ≡ y) → cond b (Err g) x ≡ Fine → cond b (Err g) z ≡ y
skip-one true g x y z h e = cc
skip-one false g x y z h e = h e

-- or the second is asked
pub group_skip : (xs ys : List Check) → first xs ≡ Fine → first (xs ++ ys) ≡ first ys
unfolding first
group_skip [] ys e = refl
group_skip (k ∷ xs) ys e = skip-one k.holds k.gives (first xs) (first ys) (first (xs ++ ys)) (group_skip xs ys) e

-- no check of a list holds
abbrev pub NoneHolds : List Check → Type 0
NoneHolds [] = Unit
NoneHolds (k ∷ ks) = (k.holds ≡ false) × NoneHolds ks

passed-one : (b : Bool) (g : Refusal) (x : Checked) → cond b (Err g) x ≡ Fine → (b ≡ false) × (x ≡ Fine)
passed-one false g x h = (refl, h)
passed-one true g x h = cc

-- where nothing is refused no check holds
pub none-holds : (ks : List Check) → first ks ≡ Fine → NoneHolds ks
unfolding first
none-holds [] e = tt
none-holds (k ∷ ks) e = let x = passed-one k.holds k.gives (first ks) e in (x.0, none-holds ks x.1)

-- ---- checks 2 to 6 in their order, whatever their conditions

module _ (tables keys message limit room : Bool) where
  abbrev answered : Checked
  answered = first (when tables Table ∷ when keys Key ∷ when message Message ∷ when limit Limit ∷ when room Room ∷ [])

  pub first_table : tables ≡ true → Err Table ≡ answered
  unfolding first
  first_table a = rw a

  module _ (a : tables ≡ false) where
    pub first_key : keys ≡ true → Err Key ≡ answered
    unfolding first
    first_key b = rw (a, b)

    module _ (b : keys ≡ false) where
      pub first-message : message ≡ true → Err Message ≡ answered
      unfolding first
      first-message c = rw (a, b, c)

      module _ (c : message ≡ false) where
        pub first-limit : limit ≡ true → Err Limit ≡ answered
        unfolding first
        first-limit d = rw (a, b, c, d)

        module _ (d : limit ≡ false) where
          pub first-room : room ≡ true → Err Room ≡ answered
          unfolding first
          first-room e = rw (a, b, c, d, e)

          pub first-none : room ≡ false → Fine ≡ answered
          unfolding first
          first-none e = rw (a, b, c, d, e)

-- ---- the halves of an answer

pub halves_of : (c : Checked) (n : ℕ) → n < 2 ^ 32 → Halves (answer c n) c n
halves_of c n h = record { upper = omega arith; lower = omega arith; small = h }
