-- `lowmc::xor_each` meets its contract.
use mathlib.Core.Path.{◌≡◌}
use Rattle.bits.specs.Bits.{◌⊕◌}
use Rattle.bits.specs.Words.{block_bits}
use Rattle.lowmc.specs.Vectors.{none, at}
use Rattle.lowmc.proofs.VectorsLaws.{SetBelow}
use Rattle.lowmc.proofs.xor_each.Given as goal

abbrev pub invariant-loop-k : goal.invariant-loop-k
invariant-loop-k g l = SetBelow g.row.N none (λ k z. block_bits z ≡ block_bits (at l.fn.x k) ⊕ block_bits (at l.y k)) l.fn.x l.a-items l.k
