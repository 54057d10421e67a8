-- Cited by inner contracts alone: any two proofs that two outcomes of checks are equal are equal, so that the fact can be a ghost field.
use Rattle.std.proofs.Props.{props}
use Rattle.std.specs.Prelude.{◌≡◌}
use Rattle.answers.specs.Answers.{Checked}

pub Checked-prop : (a b : Checked) → IsProp (a ≡ b)
Checked-prop a b = hlevel props
