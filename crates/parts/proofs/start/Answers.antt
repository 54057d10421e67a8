-- `parts::start` meets its contract.
use Rattle.shape.proofs.SetFacts.{header_length≤}
use native.Mathlib.Omega.{arith}
use Rattle.parts.proofs.start.Goals as goal

pub overflow_add-result : goal.overflow_add-result
overflow_add-result c = omega (arith, header_length≤ c.requires)
