-- `signer::signing::Signing::played` meets its contract.
use mathlib.Core.Path.{refl}
use Rattle.circuit.specs.Round.{party0, party1, party2}
use Rattle.lowmc.specs.Cipher.{cipher}
use Rattle.room.proofs.RoomLaws.{take_as}
use Rattle.signer.specs.Making.{round_tapes}
use Rattle.signer.proofs.PlayLaws.{played_over}
use Rattle.signer.proofs.signing.Signing.played.Goals as goal

pub returns : goal.returns
returns c =
    let s = c.args.self.now in
    let m = c.tape_length-m.ensures.1 s.tables.keys.now s.tables.layers.now s.tables.constants.now party0 refl in
    let n = c.tape_length-n.ensures.1 s.tables.keys.now s.tables.layers.now s.tables.constants.now party2 refl in
    played_over (cipher s.tables) s.secret.now _ _ _ (round_tapes s c.args.t) _ _ _
    (take_as _ _ _ _ m (c.seeded_tape-t0.ensures party0 refl)) (take_as _ _ _ _ m (c.seeded_tape-t1.ensures party1 refl))
    (take_as _ _ _ _ n (c.seeded_tape-t2.ensures party2 refl)) refl c.play.ensures
