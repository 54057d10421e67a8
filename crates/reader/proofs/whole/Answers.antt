-- `reader::whole` meets its contract.
use native.Mathlib.Omega.{arith}
use Rattle.bits.specs.Bytes.{width}
use Rattle.reader.proofs.whole.Goals as goal

pub returns : goal.returns
unfolding width
returns c = omega arith
