-- `answers::keys_other` meets its contract.
use Rattle.answers.specs.Conditions.{keys_other}
use Rattle.answers.proofs.ConditionsLaws.{other-true, other-false}
use Rattle.answers.proofs.keys_other.Goals as goal

pub returns-then-secret-width : goal.returns-then-secret-width
unfolding keys_other
returns-then-secret-width c = rw (other-true _ _ _ c.width.ensures c.if-secret-width.true)

pub returns : goal.returns
unfolding keys_other
returns c = rw (other-false _ _ _ c.width.ensures c.if-secret-width.false, c.public_length.ensures)
