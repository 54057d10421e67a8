-- `answers::limit_out` meets its contract.
use borrow.Author.Tests.{eq-eqb, ne_eqb}
use Rattle.answers.specs.Conditions.{limit_out}
use Rattle.answers.proofs.limit_out.Goals as goal

pub returns-then-limit-eq0 : goal.returns-then-limit-eq0
unfolding limit_out
returns-then-limit-eq0 c = rw (eq-eqb _ _ c.if-limit-eq0.true)

pub returns : goal.returns
unfolding limit_out
returns c = rw (ne_eqb _ _ c.if-limit-eq0.false)
