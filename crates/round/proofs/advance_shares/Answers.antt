-- `round::advance_shares` meets its contract.
use Rattle.round.proofs.GateLaws.{into_of, advance_of}
use Rattle.round.proofs.advance_shares.Goals as goal

pub returns : goal.returns
returns c =
    let t = c.args.tables.now in
    λ k l. advance_of t.set t.keys.now t.layers.now t.constants.now c.args.i _ _ _ _ _ _ _
    (into_of _ _ _ _ c.constant.ensures (c.public_parts-c.ensures k l)) (c.substitute.ensures k l) (c.turn.ensures k l)
