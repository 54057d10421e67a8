-- `room::party_tape` meets its contract.
use mathlib.Core.Path.{ap₂, ◌∙◌}
use lib.Seq.{length-take-le}
use Rattle.hashing.specs.Hashing.{tape}
use Rattle.views.specs.Signed.{tape_of}
use Rattle.room.proofs.RoomLaws.{front_of}
use Rattle.room.proofs.party_tape.Goals as goal

pub returns : goal.returns
unfolding tape_of
returns c =
    let a = c.args in
    let n = c.tape_length-n.ensures in
    λ keys layers constants k e.
    let q = n.1 keys layers constants k e in
    front_of _ _ _ _ _ q n.0 c.tape.auto.output
    (c.tape.ensures ∙ ap₂ (tape a.p a.seed.now a.salt.now a.t) e (length-take-le _ _ n.0 ∙ q))
