-- `lowmc::check` meets its contract.
use mathlib.Core.Path.{sym, ◌∙◌}
use borrow.Author.Tests.{lt-ltb, le-ltb}
use Rattle.answers.specs.Answers.{first}
use Rattle.lowmc.specs.Calls.{lowmc_checks}
use Rattle.lowmc.proofs.check.Goals as goal

pub returns-then-tables_other : goal.returns-then-tables_other
unfolding lowmc_checks first
returns-then-tables_other c = rw (sym c.tables_other.ensures ∙ c.if-tables_other.true)

pub returns-then-blocks_other : goal.returns-then-blocks_other
unfolding lowmc_checks first
returns-then-blocks_other c = rw (sym c.tables_other.ensures ∙ c.if-tables_other.false, sym c.blocks_other.ensures ∙ c.if-blocks_other.true)

pub returns-then-output-wanted : goal.returns-then-output-wanted
unfolding lowmc_checks first
returns-then-output-wanted c = rw (sym c.tables_other.ensures ∙ c.if-tables_other.false, sym c.blocks_other.ensures ∙ c.if-blocks_other.false, lt-ltb _ _ c.if-output-wanted.true)

pub returns : goal.returns
unfolding lowmc_checks first
returns c = rw (sym c.tables_other.ensures ∙ c.if-tables_other.false, sym c.blocks_other.ensures ∙ c.if-blocks_other.false, le-ltb _ _ c.if-output-wanted.false)
