-- `bits::eight` meets its contract.
use native.Mathlib.Omega.{arith}
use mathlib.Core.Path.{◌≡◌, sym, ap, ◌∙◌}
use Prim.Native.Nat.{ℕ, ◌+◌, ◌-◌}
use lib.ListN.{take, drop, length, length-drop, replicate}
use lib.Seq.{length-take-le}
use Rattle.slices.proofs.SliceLaws.{over-whole}
use Rattle.bits.proofs.BytesLaws.{bytes_of_part}
use Rattle.bits.proofs.eight.Goals as goal

pub returns : goal.returns
returns c =
    let a = c.args in
    let e : a.at + 8 - a.at ≡ 8 = omega arith in
    let v = take (a.at + 8 - a.at) (drop a.at a.s.now) in
    let l : length v ≡ a.at + 8 - a.at = length-take-le (a.at + 8 - a.at) (drop a.at a.s.now) (omega (arith, c.requires, length-drop a.at a.s.now)) in
    c.copy.ensures ∙ over-whole v (replicate 8 0) (l ∙ e) ∙ ap (λ (n : ℕ). take n (drop a.at a.s.now)) e
    ∙ sym (bytes_of_part a.s.now a.at 8 (λ k. (c.type_inv.s k).fits) (omega arith))
