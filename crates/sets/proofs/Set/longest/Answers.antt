-- `sets::Set::longest` meets its contract.
use Prim.Native.Nat.{◌+◌, ◌*◌}
use Rattle.bits.specs.Bytes.{width}
use Rattle.sets.specs.declared.Set.{Set}
use Rattle.sets.proofs.Each.{fits_set}
use Rattle.sets.specs.Lengths.{header_length, salt_length, round_most, longest}
use Rattle.sets.proofs.Set.longest.Goals as goal

pub overflow_add-result : goal.overflow_add-result
unfolding width
overflow_add-result c = rw c.header.ensures (fits_set (λ (p : Set). header_length p + salt_length) tt tt tt c.requires)

pub overflow_mul-result : goal.overflow_mul-result
unfolding width
overflow_mul-result c = rw c.round_most.ensures (fits_set (λ (p : Set). p.t * round_most p) tt tt tt c.requires)

pub overflow_add-result-2 : goal.overflow_add-result-2
unfolding width
overflow_add-result-2 c = rw (c.header.ensures, c.round_most.ensures) (fits_set (λ (p : Set). longest p) tt tt tt c.requires)

pub returns : goal.returns
returns c = rw (c.header.ensures, c.round_most.ensures)
