-- `slices::copy` meets its contract.
use mathlib.Core.Path.{◌≡◌}
use lib.ListN.{take}
use Rattle.slices.specs.Slices.{over}
use Rattle.slices.proofs.copy.Given as goal

abbrev pub invariant-loop-i : goal.invariant-loop-i
invariant-loop-i l = l.d ≡ over (take l.i l.s) l.initial.d
