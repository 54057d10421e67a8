-- `sets::Set::unpacked_length` meets its contract.
use Prim.Native.Nat.{◌+◌, ◌*◌}
use Rattle.bits.specs.Bytes.{width}
use Rattle.sets.specs.declared.Set.{Set}
use Rattle.sets.proofs.Each.{fits_set}
use Rattle.sets.specs.Lengths.{salt_length, round_most, unpacked_length}
use Rattle.sets.proofs.Set.unpacked_length.Goals as goal

pub overflow_add-result : goal.overflow_add-result
overflow_add-result c = fits_set (λ (p : Set). p.t + salt_length) tt tt tt c.requires

pub overflow_mul-result : goal.overflow_mul-result
unfolding width
overflow_mul-result c = rw c.round_most.ensures (fits_set (λ (p : Set). p.t * round_most p) tt tt tt c.requires)

pub overflow_add-result-2 : goal.overflow_add-result-2
unfolding width
overflow_add-result-2 c = rw c.round_most.ensures (fits_set (λ (p : Set). unpacked_length p) tt tt tt c.requires)

pub returns : goal.returns
returns c = rw c.round_most.ensures
