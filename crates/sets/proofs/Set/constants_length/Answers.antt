-- `sets::Set::constants_length` meets its contract.
use Rattle.bits.specs.Bytes.{width}
use Rattle.sets.specs.declared.Set.{Set}
use Rattle.sets.proofs.Each.{fits_set}
use Rattle.sets.specs.Lengths.{constants_length}
use Rattle.sets.proofs.Set.constants_length.Goals as goal

pub overflow_mul-result : goal.overflow_mul-result
unfolding width
overflow_mul-result c = rw c.width.ensures (fits_set (λ (p : Set). constants_length p) tt tt tt c.requires)

pub returns : goal.returns
returns c = rw c.width.ensures
