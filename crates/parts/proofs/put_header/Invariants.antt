-- `parts::put_header` meets its contract.
use Rattle.std.proofs.Common.{ℕ, ◌≡◌, ◌*◌, ◌<◌, get_or}
use Rattle.bits.specs.Bits.{from}
use Rattle.bits.specs.Bytes.{value}
use Rattle.shape.specs.Header.{pair_bits}
use Rattle.parts.proofs.put_header.Given as goal

abbrev pub invariant-loop-i : goal.invariant-loop-i
invariant-loop-i l = (k : ℕ) → k < l.i → get_or l.byte-items k 0 ≡ value 8 (from (8 * k) (pair_bits l.values))
