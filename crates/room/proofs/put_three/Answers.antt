-- `room::put_three` meets its contract.
use Rattle.room.proofs.RoomLaws.{three-put}
use Rattle.room.proofs.put_three.Goals as goal

pub returns : goal.returns
returns c =
    let a = c.args in
    three-put a.d.now a.at a.a.now a.b.now a.c.now c.requires c.place.ensures c.place-2.ensures c.place-3.ensures
