-- `shake::Sponge::absorb` meets its contract. The invariant: what is left, taken in from here, is all of it taken in from the start.
use mathlib.Core.Path.{◌≡◌}
use lib.ListN.{length}
use Rattle.shake.specs.Sponge.{absorbed, Taking}
use Rattle.shake.proofs.Sponge.absorb.Given as goal

abbrev pub invariant-loop-block : goal.invariant-loop-block
invariant-loop-block l = Taking l.self × (absorbed l.self l.left ≡ absorbed l.fn.self l.s)

abbrev pub decreases-loop-block : goal.decreases-loop-block
decreases-loop-block l = length l.left
