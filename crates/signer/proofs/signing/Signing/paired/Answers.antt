-- `signer::signing::Signing::paired` meets its contract.
use mathlib.Core.Path.{refl}
use Rattle.signer.proofs.SignLaws.{paired_is}
use Rattle.signer.proofs.signing.Signing.paired.Goals as goal

pub returns : goal.returns
returns c =
    let s = c.args.self.now in
    paired_is s.tables.set s.states.now s.public.now _ _ _ _ c.width-w.ensures c.stored-c.ensures refl c.equal.ensures
    s.tables.keys.now s.tables.layers.now s.tables.constants.now s.secret.now _ s.ready.traced
