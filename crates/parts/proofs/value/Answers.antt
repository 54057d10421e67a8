-- `parts::value` meets its contract.
use mathlib.Core.Path.{◌∙◌}
use Rattle.shape.proofs.HeaderLaws.{value_in_byte}
use Rattle.parts.proofs.value.Goals as goal

pub returns : goal.returns
returns c = c.exchanged.ensures ∙ value_in_byte c.args.s.now c.args.k
