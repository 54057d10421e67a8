-- `signature::unpack` meets its contract.
use mathlib.Core.Path.{refl}
use native.Mathlib.Omega.{arith}
use Rattle.shape.proofs.RoundTripsProof.{exact-long}
use Rattle.shape.proofs.SetFacts.{header_length≤}
use Rattle.signature.proofs.UnpackLaws.{unpacked}
use Rattle.signature.proofs.unpack.Goals as goal

pub overflow_add-end : goal.overflow_add-end
overflow_add-end c = omega (arith, header_length≤ c.requires.0)

pub put_values-requires : goal.put_values-requires
put_values-requires c =
    (c.requires.0, (omega (arith, exact-long c.args.p c.args.s.now c.requires.1.0), omega arith))

pub slice_bounds-place-end : goal.slice_bounds-place-end
slice_bounds-place-end c =
    omega (arith, exact-long c.args.p c.args.s.now c.requires.1.0)

pub returns : goal.returns
returns c =
    unpacked c.args.p c.args.s.now c.args.output.now c.requires.1.0 c.requires.1.1 _ _
    c.header-from.ensures refl
    c.put_values.ensures
    c.place.ensures c.put_slots.ensures
