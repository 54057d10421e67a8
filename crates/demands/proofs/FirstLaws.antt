-- Which refusal a list of checks answers, told by the checks that hold and by the numbers that are not answered.
use mathlib.Core.Path.{◌≡◌, refl, ap}
use mathlib.Core.Bool.{Bool, true, false, cond, ◌||◌}
use mathlib.Core.List.{List, [], ◌∷◌}
use Prim.Native.Nat.{ℕ, suc, ◌*◌, ◌^◌}
use native.Mathlib.Omega.{arith}
use lib.Dec.{eqb}
use lib.ListN.{length}
use borrow.Author.Tests.{eq-eqb}
use Rattle.std.proofs.Common.{Ok, Err}
use Rattle.slices.specs.Slices.{Bytes}
use Rattle.answers.specs.declared.Refusal.{Refusal}
use Rattle.answers.specs.Answers.{Checked, number, code, fine, Check, when, first, Halves}
use Rattle.answers.specs.Outcome.{Outcome, refused, gives, outcome_of, unless, refusal_of, written_by}
use Rattle.answers.proofs.ConditionsLaws.{neither}
use Rattle.shape.proofs.ReadingLaws.{no}

-- a check that gives r holds, and n is the number of none before it
pub data Reached (n : ℕ) (r : Refusal) : List Check → Type 0 where
  here : {b : Bool} {ks : List Check} → b ≡ true → Reached n r (when b r ∷ ks)
  past : {k : Check} {ks : List Check} → ¬ (n ≡ number k.gives) → Reached n r ks → Reached n r (k ∷ ks)

-- one check more in front
reached-one : (b : Bool) (g r : Refusal) (x : Checked) (n : ℕ) → ¬ (n ≡ number g) → (n ≡ code x → x ≡ Err r) → n ≡ code (cond b (Err g) x)
    → cond b (Err g) x ≡ Err r
reached-one true g r x n d h a = absurd (d a)
reached-one false g r x n d h a = h a

-- then r is answered, if n is the number answered
pub reached : (n : ℕ) (r : Refusal) (ks : List Check) → Reached n r ks → n ≡ code (first ks) → first ks ≡ Err r
unfolding first
reached n r ls (here e) a = rw e
reached n r ls (past {k} {ks} d h) a = reached-one k.holds k.gives r (first ks) n d (λ c. reached n r ks h c) a

-- some check of number n holds
unfoldable pub raised : ℕ → List Check → Bool
raised n [] = false
raised n (k ∷ ks) = cond (eqb (number k.gives) n) k.holds false || raised n ks

-- one check more in front
raised_one : (b : Bool) (g : Refusal) (x : Checked) (n : ℕ) → cond (eqb (number g) n) b false ≡ false → ¬ (code x ≡ n) → ¬ (code (cond b (Err g) x) ≡ n)
raised_one true g x n e d a = no (rw (eq-eqb (number g) n a) at e)
raised_one false g x n e d a = d a

-- where none does, n is not answered
pub not_raised : (n : ℕ) (ks : List Check) → raised (suc n) ks ≡ false → ¬ (code (first ks) ≡ suc n)
unfolding raised first
not_raised n [] e = λ a. omega arith
not_raised n (k ∷ ks) e =
    let two = neither (cond (eqb (number k.gives) (suc n)) k.holds false) (raised (suc n) ks) e in
    raised_one k.holds k.gives (first ks) (suc n) two.0 (not_raised n ks two.1)

after_refusal : (c : Checked) (vs : Bytes) → refusal_of (outcome_of c vs) ≡ c
after_refusal (Ok done) vs = refl
after_refusal (Err r) vs = refl

-- the refusal of an outcome is that of its checks
pub unless-refusal : (ks : List Check) (vs : Bytes) → refusal_of (unless ks vs) ≡ first ks
unfolding unless
unless-refusal ks vs = after_refusal (first ks) vs

-- nothing is written on a refusal
pub outcome_writes : (o : Outcome) → fine (refusal_of o) ≡ false → length (written_by o) ≡ 0
outcome_writes (refused r) f = refl
outcome_writes (gives vs) f = no f

-- then it stands alone in its answer
pub alone : (back n : ℕ) (c : Checked) → Halves back c n → (fine c ≡ false → n ≡ 0) → (s : Refusal) → c ≡ Err s → back ≡ number s * 2 ^ 32
alone back n c h z s e =
    let m : code c ≡ number s = ap code e in
    let none = z (ap fine e) in
    omega (arith, h.upper, h.lower)
