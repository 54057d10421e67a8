-- `signature::put_slot` meets its contract.
use mathlib.Core.Path.{refl}
use Prim.Native.Nat.{◌+◌, ◌-◌}
use native.Mathlib.Omega.{arith}
use lib.ListN.{drop, length, length-take, length-drop}
use Rattle.shape.proofs.RoundsLaws.{sizes_bounds, sizes_zero}
use Rattle.signature.proofs.UnpackLaws.{slot-other, slot_zero}
use Rattle.signature.proofs.put_slot.Goals as goal

pub place-requires : goal.place-requires
place-requires c =
    omega (
      arith,
      sizes_bounds c.args.p c.args.e,
      length-take
          (c.args.at + c.round_length-n.result - c.args.at) (drop c.args.at c.args.s.now),
    )

pub returns-then-e-ne0 : goal.returns-then-e-ne0
returns-then-e-ne0 c =
    slot-other c.args.p c.args.e c.args.at c.args.to _ _ c.args.s.now c.args.output.now
    c.round_length-n.ensures refl c.place.ensures
    c.if-e-ne0.true

pub slice_bounds-clear-count : goal.slice_bounds-clear-count
slice_bounds-clear-count c =
    omega (arith, sizes_bounds c.args.p c.args.e)

pub slice_bounds-clear-start : goal.slice_bounds-clear-start
slice_bounds-clear-start c =
    omega (arith, sizes_bounds c.args.p c.args.e)

pub clear-requires : goal.clear-requires
clear-requires c =
    omega (
      arith,
      sizes_zero c.args.p c.args.e c.if-e-ne0.false,
      length-take
          (length c.place.new.d -
          (c.args.to + c.round_length-n.result))
          (drop (c.args.to + c.round_length-n.result)
          c.place.new.d),
      length-drop
          (c.args.to + c.round_length-n.result)
          c.place.new.d,
    )

pub returns : goal.returns
returns c =
    slot_zero c.args.p c.args.e c.args.at c.args.to _ _ c.args.s.now c.args.output.now
    c.round_length-n.ensures refl
    c.place.ensures
    c.if-e-ne0.false (omega arith) c.requires.1.1 _ c.width.ensures
    c.clear.ensures
