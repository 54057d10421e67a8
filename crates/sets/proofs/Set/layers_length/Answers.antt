-- `sets::Set::layers_length` meets its contract.
use Prim.Native.Nat.{◌*◌}
use Rattle.bits.specs.Bytes.{width}
use Rattle.sets.specs.declared.Set.{Set}
use Rattle.sets.proofs.Each.{fits_set}
use Rattle.sets.specs.Lengths.{layers_length}
use Rattle.sets.proofs.Set.layers_length.Goals as goal

pub overflow_mul-result : goal.overflow_mul-result
overflow_mul-result c = fits_set (λ (p : Set). p.r * p.n) tt tt tt c.requires

pub overflow_mul-result-2 : goal.overflow_mul-result-2
unfolding width
overflow_mul-result-2 c = rw c.width.ensures (fits_set (λ (p : Set). layers_length p) tt tt tt c.requires)

pub returns : goal.returns
returns c = rw c.width.ensures
