-- `shake::Sponge::squeeze` meets its contract. The invariant: the first i bytes are given.
use mathlib.Core.Path.{◌≡◌}
use Prim.Native.Nat.{◌-◌, ◌≤◌}
use lib.ListN.{length}
use Rattle.slices.specs.Slices.{over}
use Rattle.shake.specs.Sponge.{squeezed, given, Giving}
use Rattle.shake.proofs.Sponge.squeeze.Given as goal

abbrev pub invariant-loop-i : goal.invariant-loop-i
invariant-loop-i l = Giving l.self × (l.i ≤ length l.initial.out) × (l.self ≡ squeezed l.fn.self l.i) × (l.out ≡ over (given l.fn.self l.i) l.initial.out)

abbrev pub decreases-loop-i : goal.decreases-loop-i
decreases-loop-i l = length l.initial.out - l.i
