-- `sets::Set::transcript` meets its contract.
use native.Mathlib.Omega.{arith}
use Prim.Native.Nat.{◌*◌}
use Rattle.bits.specs.Bytes.{width}
use Rattle.sets.specs.declared.Set.{Set}
use Rattle.sets.proofs.Each.{fits_set}
use Rattle.sets.proofs.Set.transcript.Goals as goal

pub overflow_mul-self : goal.overflow_mul-self
overflow_mul-self c = fits_set (λ (p : Set). 3 * p.s) tt tt tt c.requires

pub overflow_mul-self-2 : goal.overflow_mul-self-2
overflow_mul-self-2 c = fits_set (λ (p : Set). 3 * p.s * p.r) tt tt tt c.requires

pub returns : goal.returns
unfolding width
returns c = omega (arith, c.div_ceil.ensures)
