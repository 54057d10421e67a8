-- `lowmc::with_row` meets its contract.
use mathlib.Core.Path.{◌≡◌}
use Prim.Native.Nat.{◌+◌, ◌*◌}
use lib.ListN.{length, get_or}
use Rattle.bits.specs.Bytes.{bits_of, digit}
use Rattle.bits.specs.Inner.{low_bits}
use Rattle.circuit.specs.Matrices.{row_parity}
use Rattle.lowmc.specs.Vectors.{at}
use Rattle.lowmc.proofs.VectorsLaws.{SetBelow}
use Rattle.lowmc.proofs.with_row.Given as goal

abbrev pub invariant-loop-k : goal.invariant-loop-k
invariant-loop-k g l = SetBelow g.row.N 0 (λ k y. y ≡ get_or l.fn.x k 0 * 2 + digit (row_parity (8 * length l.row) (bits_of l.row) (low_bits (at l.t k)))) l.fn.x l.word-items l.k
