-- `lowmc::rows_words` meets its contract.
use mathlib.Core.Path.{◌≡◌}
use Prim.Native.Nat.{ℕ, ◌*◌, ◌<◌}
use lib.ListN.{get_or}
use Rattle.bits.specs.Bits.{from}
use Rattle.bits.specs.Bytes.{value}
use Rattle.bits.specs.Inner.{low_bits}
use Rattle.circuit.specs.Matrices.{row_parity}
use Rattle.lowmc.specs.Lent.{row}
use Rattle.lowmc.specs.Vectors.{at}
use Rattle.lowmc.proofs.rows_words.Given as goal

abbrev pub invariant-loop-j : goal.invariant-loop-j
invariant-loop-j g l = (k : ℕ) → k < g.row.N → get_or l.x k 0 ≡ value l.j (from l.g (λ (i : ℕ). row_parity (8 * l.w) (row l.w l.m i) (low_bits (at l.t k))))
