-- `keccak::permute` meets its contract. The invariant: a round is done for each constant passed.
use mathlib.Core.Path.{◌≡◌}
use Rattle.keccak.specs.Lanes.{rounds}
use Rattle.keccak.proofs.permute.Given as goal

abbrev pub invariant-loop-k : goal.invariant-loop-k
invariant-loop-k l = l.s ≡ rounds l.k-index l.a
