-- `lowmc::turned` meets its contract.
use Rattle.bits.specs.Bits.{Agree}
use Rattle.bits.specs.Words.{block_bits}
use Rattle.bits.specs.Inner.{low_bits}
use Rattle.lowmc.specs.Vectors.{none, at}
use Rattle.lowmc.proofs.VectorsLaws.{SetBelow}
use Rattle.lowmc.proofs.turned.Given as goal

abbrev pub invariant-loop-x : goal.invariant-loop-x
invariant-loop-x g l = SetBelow g.row.N none (λ k x. Agree 256 (low_bits x) (block_bits (at l.fn.v k))) l.fn.v l.x-items l.x-index
