-- `parts::places` meets its contract.
use native.Mathlib.Omega.{arith}
use Rattle.shape.proofs.RoundsLaws.{sizes_bounds}
use Rattle.shape.proofs.SetFacts.{round_most≤}
use Rattle.parts.proofs.places.Goals as goal

pub overflow_add-seed1 : goal.overflow_add-seed1
overflow_add-seed1 c = omega (arith, round_most≤ c.requires.0)

pub overflow_add-result : goal.overflow_add-result
overflow_add-result c = omega (arith, round_most≤ c.requires.0)

pub overflow_add-result-2 : goal.overflow_add-result-2
overflow_add-result-2 c = omega (arith, round_most≤ c.requires.0)

pub overflow_add-result-3 : goal.overflow_add-result-3
overflow_add-result-3 c =
    omega (arith, round_most≤ c.requires.0, sizes_bounds c.args.p c.args.e)
