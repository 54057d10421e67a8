-- `room::put_commitments` meets its contract.
use native.Mathlib.Omega.{arith}
use Rattle.room.proofs.RoomLaws.{commitments_fit}
use Rattle.room.proofs.put_commitments.Goals as goal

pub put_by_party-requires : goal.put_by_party-requires
put_by_party-requires c =
    let h = c.requires in
    omega (arith, commitments_fit h.0 c.args.t h.1 c.width.result c.width.ensures, h.2, h.3, h.4, h.5)
