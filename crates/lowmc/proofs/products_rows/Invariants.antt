-- `lowmc::products_rows` meets its contract.
use mathlib.Core.Path.{◌≡◌}
use Prim.Native.Nat.{◌*◌}
use Rattle.bits.specs.Words.{block_bits}
use Rattle.circuit.specs.Matrices.{product}
use Rattle.lowmc.specs.Lent.{row}
use Rattle.lowmc.specs.Vectors.{none, at}
use Rattle.lowmc.proofs.VectorsLaws.{SetBelow}
use Rattle.lowmc.proofs.products_rows.Given as goal

abbrev pub invariant-loop-k : goal.invariant-loop-k
invariant-loop-k g l = SetBelow g.row.N none (λ k x. block_bits x ≡ product (8 * l.fn.w) (row l.fn.w l.fn.m) (block_bits (at l.fn.v k))) l.fn.v l.block-items l.k
