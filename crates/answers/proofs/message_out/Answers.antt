-- `answers::message_out` meets its contract.
use borrow.Author.Tests.{eq-eqb, ne_eqb}
use Rattle.answers.specs.Conditions.{message_out}
use Rattle.answers.proofs.message_out.Goals as goal

pub returns-then-message-eq0 : goal.returns-then-message-eq0
unfolding message_out
returns-then-message-eq0 c = rw (eq-eqb _ _ c.if-message-eq0.true)

pub returns : goal.returns
unfolding message_out
returns c = rw (ne_eqb _ _ c.if-message-eq0.false)
