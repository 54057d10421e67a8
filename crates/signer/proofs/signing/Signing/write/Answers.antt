-- `signer::signing::Signing::write` meets its contract.
use native.Mathlib.Omega.{arith}
use Rattle.signer.proofs.WriteRoundsLaws.{rounds-none, rounds_inside, rounds-more, rounds_end, rounds-all}
use Rattle.signer.proofs.signing.Signing.write.Goals as goal

pub loop-t-init : goal.loop-t-init
loop-t-init c = rounds-none _ _ _ _ _ _ _ _ (omega arith)

pub write_round-at-requires : goal.write_round-at-requires
write_round-at-requires c =
    let s = c.args.self.now in (
      omega (arith, c.requires.0),
      c.requires.1 _,
      rounds_inside s.tables.lent.is_set _ _ _ _ _ _ _ s.ready.seeds-long c.requires.0 c.loop-t.invariant (omega (arith, c.requires.2))
          (omega (arith, c.requires.0)),
    )

pub loop-t-preserved : goal.loop-t-preserved
loop-t-preserved c =
    let s = c.args.self.now in
    rounds-more s.tables.lent.is_set _ _ _ _ _ _ _ s.ready.seeds-long c.requires.0 c.loop-t.invariant (omega (arith, c.requires.2))
    (omega (arith, c.requires.0)) c.write_round-at.ensures.0 c.write_round-at.ensures.1

pub returns : goal.returns
returns c =
    let s = c.args.self.now in
    let u = c.loop-t.invariant in (
      rounds_end s.tables.lent.is_set _ _ _ _ _ _ _ s.ready.seeds-long c.requires.0 u _ c.requires.2 c.write_front.ensures (omega (arith, c.requires.0)),
      rounds-all s.tables.lent.is_set _ _ _ _ _ _ _ s.ready.seeds-long c.requires.0 u _ c.requires.2 c.write_front.ensures (omega (arith, c.requires.0)),
    )
