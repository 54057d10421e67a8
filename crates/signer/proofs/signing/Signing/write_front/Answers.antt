-- `signer::signing::Signing::write_front` meets its contract.
use Rattle.signer.proofs.WriteRoundsLaws.{front_put}
use Rattle.signer.proofs.signing.Signing.write_front.Goals as goal

pub returns : goal.returns
returns c =
    let s = c.args.self.now in
    front_put s.tables.set s.seeds.now c.args.values.now c.args.output.now _ _ s.ready.seeds-long c.requires.2 c.salt.ensures c.header.ensures
    c.put_header.ensures c.place.ensures
