-- `sets::Set::round_least` meets its contract.
use Prim.Native.Nat.{◌+◌, ◌*◌}
use Rattle.bits.specs.Bytes.{width}
use Rattle.sets.specs.declared.Set.{Set}
use Rattle.sets.proofs.Each.{fits_set}
use Rattle.sets.specs.Lengths.{transcript_length, seed_width, round_least}
use Rattle.sets.proofs.Set.round_least.Goals as goal

pub overflow_add-result : goal.overflow_add-result
unfolding width
overflow_add-result c = rw c.transcript.ensures (fits_set (λ (p : Set). p.digest + transcript_length p) tt tt tt c.requires)

pub overflow_mul-result : goal.overflow_mul-result
unfolding width
overflow_mul-result c = rw c.seed_width.ensures (fits_set (λ (p : Set). 2 * seed_width p) tt tt tt c.requires)

pub overflow_add-result-2 : goal.overflow_add-result-2
unfolding width
overflow_add-result-2 c = rw (c.transcript.ensures, c.seed_width.ensures) (fits_set (λ (p : Set). round_least p) tt tt tt c.requires)
