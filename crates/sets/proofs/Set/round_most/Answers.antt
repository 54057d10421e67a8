-- `sets::Set::round_most` meets its contract.
use Rattle.bits.specs.Bytes.{width}
use Rattle.sets.specs.declared.Set.{Set}
use Rattle.sets.proofs.Each.{fits_set}
use Rattle.sets.specs.Lengths.{round_most}
use Rattle.sets.proofs.Set.round_most.Goals as goal

pub overflow_add-result : goal.overflow_add-result
unfolding width
overflow_add-result c = rw (c.round_least.ensures, c.width.ensures) (fits_set (λ (p : Set). round_most p) tt tt tt c.requires)
