-- Cited by inner contracts alone: what filling a slice with the first T values of a limit of blocks promises.
use Rattle.std.specs.Prelude.{◌≡◌, cond, ℕ, Err}
use Rattle.slices.specs.Slices.{Bytes, over}
use Rattle.sets.specs.declared.Set.{Set}
use Rattle.answers.specs.declared.Refusal.TheVariants.{Blocks}
use Rattle.answers.specs.Answers.{Checked, Fine}
use Rattle.challenge.specs.Blocks.{too_few, first_values}

-- from the first block b: 8 if place T is not filled, and the values at the start of the slice; what follows is kept
pub record Fills (set : Set) (b : Bytes) (limit : ℕ) (before : Bytes) (filled : Checked) (after : Bytes) : Type 0 where
  pub answered : filled ≡ cond (too_few set b limit) (Err Blocks) Fine
  pub left : after ≡ over (first_values set b limit) before
