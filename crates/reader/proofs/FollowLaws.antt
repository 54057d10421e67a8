-- The bytes that follow a position: where they start, and what a slice holds that they are copied to.
use mathlib.Core.Path.{◌≡◌, refl, sym, ap, ◌∙◌}
use mathlib.Core.Bool.{Bool, true, false, cond}
use Prim.Native.Nat.{ℕ, ◌+◌, ◌-◌, ◌≤◌, ◌<◌}
use native.Mathlib.Omega.{arith}
use lib.Dec.{leb}
use lib.ListN.{length, drop, length-take, length-drop}
use borrow.Author.Tests.{le-leb, lt-leb, leb-true, leb-false}
use Rattle.std.specs.Prelude.{MatchOption}
use Rattle.std.specs.Bool.{then_some}
use Rattle.slices.specs.Slices.{Bytes, part, over}
use Rattle.slices.proofs.SliceLaws.{over-whole}
use Rattle.bits.specs.Bytes.{width}
use Rattle.reader.specs.declared.Position.{Position}
use Rattle.reader.specs.Reading.{bit_number, follow, next_bytes}

-- the first whole byte that is not before a position, w being the bytes that its bits take
pub start : (p : Position) (w : ℕ) → w ≡ width p.bit → width (bit_number p) ≡ p.byte + w
unfolding width
start p w k = omega (arith, k)

-- too few bytes are left
pub outside : (s : Bytes) (at n : ℕ) → length s < width at + n → follow s at n ≡ false
outside s at n h = lt-leb _ _ h

-- the test of what is left behind the start says whether n bytes follow
pub told : (s : Bytes) (at n first left : ℕ) → first ≡ width at → first ≤ length s → left ≡ length s - first
    → MatchOption (then_some (leb n left) first) (follow s at n ≡ false) (λ x. (follow s at n ≡ true) × (x ≡ width at))
told s at n first left e l d = go (leb n left) refl
  where
    go : (b : Bool) → leb n left ≡ b → MatchOption (then_some b first) (follow s at n ≡ false) (λ x. (follow s at n ≡ true) × (x ≡ width at))
    go true t = (le-leb _ _ (omega (arith, leb-true n left t)), e)
    go false f = lt-leb _ _ (omega (arith, leb-false n left f))

-- the part that follows has n bytes
length_part : (s : Bytes) (w n : ℕ) → w + n ≤ length s → length (part s w n) ≡ n
length_part s w n h = omega (arith, h, length-take n (drop w s), length-drop w s)

-- they are there, and fill out: ys, a copy of what stands from x on, as many bytes as out has
pub filled : (s out ys : Bytes) (at x : ℕ) → follow s at (length out) ≡ true → x ≡ width at → ys ≡ over (part s x (x + length out - x)) out → ys ≡ next_bytes s at out
filled s out ys at x t h l =
    l
    ∙ (rw (h, back)
    (over-whole (part s (width at) (length out)) out (length_part s (width at) (length out) (leb-true (width at + length out) (length s) t))
    ∙ sym (ap (λ (c : Bool). cond c (part s (width at) (length out)) out) t)))
  where
    back : width at + length out - width at ≡ length out
    back = omega arith
