-- `verifier::verifying::Verifying::fill` meets its contract.
use native.Mathlib.Omega.{arith}
use Rattle.lowmc.specs.Cipher.{cipher}
use Rattle.shape.proofs.ReadingLaws.{sound}
use Rattle.views.specs.Input.{verifier_filling}
use Rattle.parts.proofs.PlacesLaws.{stands-first}
use Rattle.room.proofs.HeldLaws.{held_none}
use Rattle.verifier.proofs.FillLaws.{outputs-long, commitments-long, located_at, held_step, held_filled}
use Rattle.verifier.proofs.verifying.Verifying.fill.Goals as goal

pub loop-t-init : goal.loop-t-init
loop-t-init c =
    let a = c.args in
    let i = c.args.self.now.tables.lent.is_set in
    (c.start-cursor.ensures.0, stands-first a.self.now.tables.set a.self.now.signature.now c.start-cursor.result c.start-cursor.ensures.0 c.start-cursor.ensures.1, held_none i _ _ a.room.now)

pub locate-here-requires : goal.locate-here-requires
locate-here-requires c =
    let a = c.args in
    (c.args.self.now.tables.lent.is_set, ((sound a.self.now.tables.set a.self.now.signature.now a.self.now.reads).exact, (omega (arith, c.loop-t.invariant.0), c.loop-t.invariant.1)))

pub loop-t-preserved : goal.loop-t-preserved
loop-t-preserved c =
    let a = c.args in
    let i = c.args.self.now.tables.lent.is_set in
    let C = cipher a.self.now.tables in
    let l = c.loop-t in
    let g = located_at a.self.now.tables.set a.self.now.signature.now _ _ _ l.invariant.0 c.locate-here.ensures in
    let b = c.loop-t-test.true in (
      g.round,
      g.stands,
      held_step i _ _ a.room.now l.t l.room b c.requires
          (outputs-long i C a.self.now.public.now a.self.now.signature.now l.t b a.self.now.reads _ g) (commitments-long i C a.self.now.public.now a.self.now.signature.now l.t b a.self.now.reads _ g)
          l.invariant.2 c.fill_at.ensures,
    )

pub returns : goal.returns
unfolding verifier_filling
returns c =
    let a = c.args in
    held_filled c.args.self.now.tables.lent.is_set _ _ a.room.now c.loop-t.t c.loop-t.room (omega arith) c.requires c.loop-t.invariant.2
