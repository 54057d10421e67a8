-- What holds of each of the three sets by computing holds of any set.
use mathlib.Core.Path.{◌≡◌}
use mathlib.Core.Bool.{Bool, true, false, cond}
use Prim.Native.Nat.{ℕ, ◌≤◌, ◌^◌}
use lib.Dec.{T, ltb, leb, eqb, lit≤}
use native.Mathlib.Omega.{arith}
use mir.Syntax.{w64}
use mir.Val.{Fits}
use mir.Facts.{Fits-lit}
use Rattle.std.proofs.Common.{Option, Some, None}
use Rattle.sets.specs.declared.Set.{Set}
use Rattle.sets.specs.Sets.{numbered, l1, l3, l5, IsSet, is_l1, is_l3, is_l5}

-- by cases, for any property
pub each : (P : Set → Type 0) → P l1 → P l3 → P l5 → {p : Set} → IsSet p → P p
each P a b c is_l1 = a
each P a b c is_l3 = b
each P a b c is_l5 = c

-- a number of a set is at most m
pub most : (f : Set → ℕ) (m : ℕ) → T (leb (f l1) m) → T (leb (f l3) m) → T (leb (f l5) m) → {p : Set} → IsSet p → f p ≤ m
most f m a b c = each (λ (p : Set). f p ≤ m) (lit≤ a) (lit≤ b) (lit≤ c)

-- a number of a set fits a usize
pub fits_set : (f : Set → ℕ) → T (ltb (f l1) (2 ^ 64)) → T (ltb (f l3) (2 ^ 64)) → T (ltb (f l5) (2 ^ 64)) → {p : Set} → IsSet p → Fits w64 (f p)
fits_set f a b c = each (λ (p : Set). Fits w64 (f p)) (Fits-lit a) (Fits-lit b) (Fits-lit c)

known_same : {p q : Set} → ◌≡◌ {A = Option Set} (Some p) (Some q) → p ≡ q
known_same e = cc

-- what a number chooses is one of the three
chosen : (a b c : Bool) (p : Set)
    → cond a (Some l1) (cond b (Some l3) (cond c (Some l5) None)) ≡ Some p → IsSet p
chosen true b c p e = rw (← (known_same e)) is_l1
chosen false true c p e = rw (← (known_same e)) is_l3
chosen false false true p e = rw (← (known_same e)) is_l5
chosen false false false p e = let z : ◌≡◌ {A = ℕ} 0 1 = cc in absurd (omega arith)

pub known_set : (k : ℕ) (p : Set) → numbered k ≡ Some p → IsSet p
known_set k p e = chosen (eqb k 1) (eqb k 2) (eqb k 3) p e
