-- `parts::put_round` meets its contract.
use native.Mathlib.Omega.{arith}
use Rattle.shape.proofs.RoundsLaws.{sizes_bounds, sizes_zero, sizes-other}
use Rattle.shape.proofs.SetFacts.{round_most≤}
use Rattle.parts.specs.Places.{shown_by}
use Rattle.parts.proofs.PutLaws.{length_four, put_zero, put_other}
use Rattle.parts.proofs.put_round.Goals as goal

pub put_four-requires : goal.put_four-requires
put_four-requires c =
    omega (arith, length_four c.args.p c.args.e (shown_by c.args.shown) c.requires.1.0, sizes_bounds c.args.p c.args.e)

pub overflow_add-end : goal.overflow_add-end
overflow_add-end c = omega (arith, round_most≤ c.requires.0)

pub returns-then-e-eq0 : goal.returns-then-e-eq0
returns-then-e-eq0 c = (
  omega (arith, sizes_zero c.args.p c.args.e c.if-e-eq0.true),
  put_zero c.args.p c.args.e (shown_by c.args.shown) c.requires.1.0 c.args.output.now c.args.at c.put_four.ensures c.if-e-eq0.true,
)

pub place-requires : goal.place-requires
place-requires c = omega (arith, sizes-other c.args.p c.args.e c.if-e-eq0.false, c.requires.1.0.share)

pub overflow_add-result : goal.overflow_add-result
overflow_add-result c = omega (arith, round_most≤ c.requires.0)

pub returns : goal.returns
returns c = (
  omega (arith, sizes-other c.args.p c.args.e c.if-e-eq0.false),
  put_other c.args.p c.args.e (shown_by c.args.shown) c.requires.1.0 c.args.output.now c.args.at c.put_four.ensures _
      c.if-e-eq0.false c.requires.1.1 (omega arith) c.place.ensures,
)
