-- `shake::Sponge::absorb` meets its contract. The invariant: what is left, taken in from here, is all of it taken in from the start.
use mathlib.Core.Path.{sym, ap, ap₂, ◌∙◌}
use mathlib.Core.List.{◌++◌}
use Prim.Native.Nat.{◌+◌, ◌-◌, ◌<◌}
use native.Mathlib.Omega.{arith}
use lib.ListN.{length, take-append-drop}
use Rattle.keccak.specs.Lanes.{Lanes}
use Rattle.shake.specs.Sponge.{sponge, absorbed}
use Rattle.shake.proofs.SpongeLaws.{absorbed_block, absorbed-room}
use Rattle.shake.proofs.Sponge.absorb.Goals as goal

pub loop-block-preserved : goal.loop-block-preserved
loop-block-preserved c =
    let l = c.loop-block in
    let s = l.self in
    let v = l.invariant in
    let w = c.in-Some.ensures.cases in (
      record { rated = v.0.rated; room = v.0.rated.some },
      absorbed_block s.rate s.lanes _ _ s.at _ _ v.0.room (omega (arith, w.3)) c.add_part.ensures c.permute.ensures
          ∙ ap (absorbed s) (ap₂ ◌++◌ w.1 w.2 ∙ take-append-drop _ l.left.now)
          ∙ v.1,
    )

pub returns : goal.returns
returns c =
    let l = c.loop-block in
    let s = l.self in
    let v = l.invariant in
    let n = length l.left.now in
    let h : n < s.rate - s.at = c.in_default.ensures.cases in (
      ap (λ (x : Lanes). sponge s.rate x (s.at + n)) c.add_part-2.ensures
          ∙ sym (absorbed-room s.rate s.lanes s.at l.left.now (omega arith)) ∙ v.1,
      record { rated = v.0.rated; room = omega arith },
    )
