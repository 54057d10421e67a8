-- `signature::put_rounds` meets its contract.
use mathlib.Core.Path.{refl}
use Prim.Native.Nat.{◌+◌, ◌-◌}
use native.Mathlib.Omega.{arith}
use lib.ListN.{drop, get_or, length-take}
use Rattle.shape.proofs.RoundsLaws.{sizes_bounds}
use Rattle.shape.proofs.SetFacts.{round_most≤}
use Rattle.signature.proofs.PackLaws.{packed_none, packed-length, packed_inside, packed-small, packed_more, packed_all}
use Rattle.signature.proofs.put_rounds.Goals as goal

pub loop-k-init : goal.loop-k-init
loop-k-init c = packed_none _ _ _ _ _ (omega arith) (omega arith)

pub overflow_add-end : goal.overflow_add-end
overflow_add-end c =
    omega (
      arith,
      packed_inside c.loop-k.invariant c.requires.1.0 c.requires.1.1
          c.loop-k-test.true,
    )

pub slice_bounds-place-end : goal.slice_bounds-place-end
slice_bounds-place-end c =
    omega (
      arith,
      packed_inside c.loop-k.invariant c.requires.1.0 c.requires.1.1
          c.loop-k-test.true,
    )

pub place-requires : goal.place-requires
place-requires c =
    let turn = c.loop-k in
    omega (
      arith,
      packed_inside turn.invariant c.requires.1.0 c.requires.1.1 c.loop-k-test.true,
      packed-length turn.invariant c.requires.1.0 c.requires.1.1,
      length-take (turn.from + c.round_length-n.result - turn.from) (drop turn.from c.args.x.now),
    )

pub overflow_add-at-in-loop-k : goal.overflow_add-at-in-loop-k
overflow_add-at-in-loop-k c =
    omega (
      arith,
      packed-small c.loop-k.invariant c.requires.1.0
          c.requires.1.1 c.requires.0 c.loop-k-test.true,
      sizes_bounds
          c.args.p (get_or c.args.x.now
          c.loop-k.k 0),
      round_most≤ c.requires.0,
    )

pub overflow_add-from-in-loop-k : goal.overflow_add-from-in-loop-k
overflow_add-from-in-loop-k c =
    omega (
      arith,
      packed-small c.loop-k.invariant c.requires.1.0
          c.requires.1.1 c.requires.0 c.loop-k-test.true,
    )

pub loop-k-preserved : goal.loop-k-preserved
loop-k-preserved c =
    packed_more c.loop-k.invariant c.requires.1.0 c.requires.1.1
    c.loop-k-test.true _ _ _
    c.round_length-n.ensures
    c.round_most-most.ensures refl
    c.place.ensures

pub returns : goal.returns
returns c =
    packed_all c.loop-k.invariant c.requires.1.0 c.requires.1.1 c.loop-k-test.false
