-- `room::tape_length` meets its contract.
use native.Mathlib.Omega.{arith}
use Rattle.room.proofs.RoomLaws.{sizes, tape-long, tape_short}
use borrow.Author.Rules.{rules}
use Rattle.room.proofs.tape_length.Goals as goal

pub returns-then-j-eq2 : goal.returns-then-j-eq2
returns-then-j-eq2 c = (omega (arith, (sizes c.requires).transcript, c.transcript-m.ensures), tape_short c.args.p c.args.j _ (search rules) c.transcript-m.ensures, omega (arith, (sizes c.requires).narrower, c.transcript-m.ensures))

pub returns-else-j-eq2 : goal.returns-else-j-eq2
returns-else-j-eq2 c =
    let h = sizes c.requires in
    (omega (arith, h.transcript, h.width, c.transcript-m.ensures, c.width.ensures), tape-long c.args.p c.args.j _ _ (search rules) c.width.ensures c.transcript-m.ensures, omega (arith, c.width.ensures))
