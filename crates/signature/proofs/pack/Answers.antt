-- `signature::pack` meets its contract.
use mathlib.Core.Path.{refl, sym, ◌∙◌}
use native.Mathlib.Omega.{arith}
use lib.Seq.{length-take-le}
use Rattle.shape.proofs.ReadingLaws.{whole}
use Rattle.shape.proofs.RoundTripsProof.{length-signature}
use Rattle.signature.proofs.PackLaws.{packed}
use Rattle.signature.proofs.CallLaws.{whole-values}
use Rattle.signature.proofs.pack.Goals as goal

pub slice_bounds-put_header-end : goal.slice_bounds-put_header-end
slice_bounds-put_header-end c =
    sym (length-take-le c.args.p.t c.args.x.now
    (omega (arith, (whole c.args.p c.args.x.now c.requires.1.0).exact)))

pub put_header-requires : goal.put_header-requires
put_header-requires c = (
  c.requires.0,
  (
    length-take-le c.args.p.t c.args.x.now
        (omega (arith, (whole c.args.p c.args.x.now c.requires.1.0).exact)),
    (whole-values c.args.p c.args.x.now c.requires.1.0, omega arith),
  ),
)

pub slice_bounds-place-end : goal.slice_bounds-place-end
slice_bounds-place-end c =
    omega (arith, (whole c.args.p c.args.x.now c.requires.1.0).exact)

pub put_rounds-requires : goal.put_rounds-requires
put_rounds-requires c =
    (c.requires.0, ((whole c.args.p c.args.x.now c.requires.1.0).exact, omega arith))

pub returns : goal.returns
returns c = (
  c.put_rounds.ensures.0 ∙ sym
      (length-signature c.args.p c.args.x.now
      (whole c.args.p c.args.x.now c.requires.1.0).exact),
  packed c.args.p c.args.x.now
      c.args.output.now (whole c.args.p c.args.x.now c.requires.1.0).exact c.requires.1.1 _ _ refl
      c.header.ensures
      c.put_header.ensures
      c.place.ensures c.put_rounds.ensures.1,
)
