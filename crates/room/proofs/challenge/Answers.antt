-- `room::challenge` meets its contract.
use mathlib.Core.Path.{◌∙◌}
use Rattle.hashing.proofs.HashingLaws.{fed_more}
use Rattle.views.specs.Input.{challenge_input}
use Rattle.room.proofs.RoomLaws.{fed_input, filled-from}
use Rattle.room.proofs.challenge.Goals as goal

pub returns : goal.returns
returns c =
    let a = c.args in
    let e1 = fed_more _ _ _ _ _ c.prefixed.ensures.0 c.absorb.ensures.0 in
    let e2 = fed_more _ _ _ _ _ e1 c.absorb-s.ensures.0 in
    let e3 = fed_more _ _ _ _ _ e2 c.absorb-2.ensures.0 in
    let e4 = fed_more _ _ _ _ _ e3 c.absorb-u.ensures.0 in
    filled-from a.p _ _ a.limit _ _ _
    (c.first_block.ensures (challenge_input a.filled.now a.salt.now a.public.now a.message.now)
    (e4 ∙ fed_input _ a.filled.now a.salt.now a.public.now a.message.now))
    c.fill.ensures
