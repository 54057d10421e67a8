-- `verifier::verifying::Verifying::agrees` meets its contract.
use mathlib.Core.Path.{◌≡◌}
use lib.Dec.{eqb}
use lib.ListN.{take}
use Rattle.slices.specs.Slices.{equal}
use Rattle.shape.specs.Header.{values}
use Rattle.verifier.proofs.verifying.Verifying.agrees.Given as goal

abbrev pub invariant-loop-k : goal.invariant-loop-k
invariant-loop-k l = eqb l.d 0 ≡ equal (take l.k l.found) (take l.k (values l.self.tables.set l.self.signature.now))
