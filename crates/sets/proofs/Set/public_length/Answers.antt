-- `sets::Set::public_length` meets its contract.
use Rattle.bits.specs.Bytes.{width}
use Rattle.sets.specs.declared.Set.{Set}
use Rattle.sets.proofs.Each.{fits_set}
use Rattle.sets.specs.Lengths.{public_length}
use Rattle.sets.proofs.Set.public_length.Goals as goal

pub overflow_mul-result : goal.overflow_mul-result
unfolding width
overflow_mul-result c = rw c.width.ensures (fits_set (λ (p : Set). public_length p) tt tt tt c.requires)
