-- `parts::full_length` meets its contract.
use mathlib.Core.Path.{ap}
use Prim.Native.Nat.{ℕ, ◌+◌}
use native.Mathlib.Omega.{arith}
use Rattle.shape.proofs.RoundsLaws.{sizes_bounds}
use Rattle.shape.proofs.SetFacts.{round_most≤}
use Rattle.parts.proofs.HeadLaws.{value_inside}
use Rattle.parts.proofs.WalkLaws.{reached-first, reached-more, reached_end, reached-most}
use Rattle.parts.proofs.full_length.Goals as goal

pub loop-k-init : goal.loop-k-init
loop-k-init c = reached-first _ _ _ (ap (λ (n : ℕ). n + 32) c.header-at.ensures)

pub value-requires : goal.value-requires
value-requires c =
    value_inside c.args.p _ _ c.requires.1 c.loop-k-test.true

pub overflow_add-at-in-loop-k : goal.overflow_add-at-in-loop-k
overflow_add-at-in-loop-k c =
    omega (
      arith,
      reached-most c.loop-k.invariant c.requires.0,
      sizes_bounds c.args.p
          c.value.result,
      round_most≤ c.requires.0,
    )

pub loop-k-preserved : goal.loop-k-preserved
loop-k-preserved c =
    reached-more c.loop-k.invariant c.loop-k-test.true _ _ c.value.ensures
    c.round_length-at.ensures

pub returns : goal.returns
returns c = reached_end c.loop-k.invariant c.loop-k-test.false
