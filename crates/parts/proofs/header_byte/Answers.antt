-- `parts::header_byte` meets its contract.
use mathlib.Core.Path.{◌≡◌}
use Prim.Native.Nat.{ℕ, ◌<◌}
use native.Mathlib.Omega.{arith}
use Rattle.bits.specs.Bits.{Bits}
use Rattle.bits.specs.Bytes.{value}
use Rattle.bits.proofs.NumberLaws.{value_lt}
use Rattle.shape.specs.Header.{pair_bits}
use Rattle.shape.proofs.HeaderLaws.{byte_of_pairs}
use Rattle.parts.proofs.header_byte.Goals as goal

-- a pair is below four
small : (f : Bits) {v : ℕ} → v ≡ value 2 f → v < 4
small f e = omega (arith, value_lt 2 f)

pub overflow_mul-result : goal.overflow_mul-result
overflow_mul-result c = omega (arith, small _ c.pair.ensures)

pub overflow_mul-result-2 : goal.overflow_mul-result-2
overflow_mul-result-2 c = omega (arith, small _ c.pair-2.ensures)

pub overflow_add-result : goal.overflow_add-result
overflow_add-result c = omega (arith, small _ c.pair.ensures, small _ c.pair-2.ensures)

pub overflow_mul-result-3 : goal.overflow_mul-result-3
overflow_mul-result-3 c = omega (arith, small _ c.pair-3.ensures)

pub overflow_add-result-2 : goal.overflow_add-result-2
overflow_add-result-2 c = omega (arith, small _ c.pair.ensures, small _ c.pair-2.ensures, small _ c.pair-3.ensures)

pub overflow_add-result-3 : goal.overflow_add-result-3
overflow_add-result-3 c = omega (arith, small _ c.pair.ensures, small _ c.pair-2.ensures, small _ c.pair-3.ensures, small _ c.pair-4.ensures)

pub returns : goal.returns
returns c = rw (c.pair.ensures, c.pair-2.ensures, c.pair-3.ensures, c.pair-4.ensures) (byte_of_pairs (pair_bits c.args.values.now) c.args.i)
