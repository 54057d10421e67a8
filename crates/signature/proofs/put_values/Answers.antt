-- `signature::put_values` meets its contract.
use native.Mathlib.Omega.{arith}
use lib.ListN.{length-take}
use Rattle.shape.specs.Header.{value_at, values}
use Rattle.parts.proofs.HeadLaws.{value_inside}
use Rattle.parts.proofs.FillLaws.{front_filled}
use Rattle.signature.proofs.put_values.Goals as goal

pub value-requires : goal.value-requires
value-requires c =
    value_inside c.args.p _ _ c.requires.1.0 (omega (arith, c.loop-k-test.true, length-take c.args.p.t c.args.output.now))

pub returns : goal.returns
unfolding values
returns c = front_filled (value_at c.args.s.now) _ _ _ c.args.output.now c.requires.1.1 (omega arith) c.loop-k-test.false c.loop-k.invariant
