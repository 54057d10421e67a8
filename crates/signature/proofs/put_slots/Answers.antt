-- `signature::put_slots` meets its contract.
use native.Mathlib.Omega.{arith}
use Rattle.shape.proofs.RoundsLaws.{sizes_bounds}
use Rattle.shape.proofs.RoundTripsProof.{exact-long}
use Rattle.shape.proofs.SetFacts.{round_most≤}
use Rattle.parts.proofs.HeadLaws.{value_inside}
use Rattle.parts.proofs.WalkLaws.{reached-most}
use Rattle.signature.proofs.UnpackLaws.{unpacked_none, unpacked_inside, unpacked_most, unpacked_more, unpacked_all}
use Rattle.signature.proofs.put_slots.Goals as goal

pub loop-k-init : goal.loop-k-init
loop-k-init c = unpacked_none _ _ _ _ _ (omega arith) (omega arith)

pub value-e-requires : goal.value-e-requires
value-e-requires c =
    value_inside c.args.p _ _ (omega (arith, exact-long c.args.p c.args.s.now c.requires.1.0))
    c.loop-k-test.true

pub put_slot-requires : goal.put_slot-requires
put_slot-requires c = (
  c.requires.0,
  unpacked_inside c.loop-k.invariant c.requires.1.0 c.requires.1.1
      c.loop-k-test.true _ c.value-e.ensures,
)

pub overflow_add-at-in-loop-k : goal.overflow_add-at-in-loop-k
overflow_add-at-in-loop-k c =
    omega (
      arith,
      reached-most c.loop-k.invariant.reached
          c.requires.0,
      sizes_bounds c.args.p c.value-e.result,
      round_most≤ c.requires.0,
    )

pub overflow_add-to-in-loop-k : goal.overflow_add-to-in-loop-k
overflow_add-to-in-loop-k c =
    omega (
      arith,
      unpacked_most c.loop-k.invariant c.requires.1.0
          c.requires.1.1 c.requires.0 c.loop-k-test.true,
    )

pub loop-k-preserved : goal.loop-k-preserved
loop-k-preserved c =
    unpacked_more c.loop-k.invariant c.requires.1.0 c.requires.1.1
    c.loop-k-test.true _ _ _ c.value-e.ensures
    c.round_length-at.ensures c.round_most-most.ensures
    c.put_slot.ensures

pub returns : goal.returns
returns c =
    unpacked_all c.loop-k.invariant c.requires.1.0 c.requires.1.1 c.loop-k-test.false
