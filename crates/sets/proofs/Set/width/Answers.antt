-- `sets::Set::width` meets its contract.
use native.Mathlib.Omega.{arith}
use Rattle.bits.specs.Bytes.{width}
use Rattle.sets.proofs.Set.width.Goals as goal

pub returns : goal.returns
unfolding width
returns c = omega (arith, c.div_ceil.ensures)
