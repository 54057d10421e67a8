-- `answers::blocks_other` meets its contract.
use Rattle.answers.specs.Conditions.{blocks_other}
use Rattle.answers.proofs.ConditionsLaws.{other-true, other-false}
use Rattle.answers.proofs.blocks_other.Goals as goal

pub returns-then-secret-width : goal.returns-then-secret-width
unfolding blocks_other
returns-then-secret-width c = rw (other-true _ _ _ c.width.ensures c.if-secret-width.true)

pub returns : goal.returns
unfolding blocks_other
returns c = rw (other-false _ _ _ c.width.ensures c.if-secret-width.false, c.width-2.ensures)
