-- `parts::locate` meets its contract.
use native.Mathlib.Omega.{arith}
use Rattle.shape.proofs.RoundTripsProof.{exact-long}
use Rattle.parts.proofs.HeadLaws.{value_inside}
use Rattle.parts.proofs.WalkLaws.{reached-most}
use Rattle.parts.proofs.PlacesLaws.{located}
use Rattle.parts.proofs.locate.Goals as goal

pub value-e-requires : goal.value-e-requires
value-e-requires c =
    value_inside c.args.p _ _ (omega (arith, exact-long c.args.p c.args.s.now c.requires.1.0))
    c.requires.1.1.0

pub places-q-requires : goal.places-q-requires
places-q-requires c = (
  c.requires.0,
  omega (
    arith,
    reached-most {k = c.args.c.round} (record { far = omega arith; is = c.requires.1.1.1 })
        c.requires.0,
  ),
)

pub returns : goal.returns
returns c =
    located c.args.p c.args.s.now c.requires.1.0 c.args.c.round _ _ c.requires.1.1.0
    c.value-e.ensures c.requires.1.1.1 _ c.places-q.ensures
