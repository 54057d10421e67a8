-- `parts::round_length` meets its contract.
use mathlib.Core.Path.{sym, ◌∙◌}
use Rattle.shape.proofs.RoundsLaws.{sizes_zero, sizes-other}
use Rattle.parts.proofs.round_length.Goals as goal

pub returns-then-e-ne0 : goal.returns-then-e-ne0
returns-then-e-ne0 c = c.round_most.ensures ∙ sym (sizes-other _ _ c.if-e-ne0.true)

pub returns : goal.returns
returns c = c.round_least.ensures ∙ sym (sizes_zero _ _ c.if-e-ne0.false)
