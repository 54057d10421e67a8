-- `parts::put_four` meets its contract.
use Rattle.parts.proofs.PutLaws.{four_put}
use Rattle.parts.proofs.put_four.Goals as goal

pub returns : goal.returns
returns c =
    four_put c.args.output.now c.args.at c.args.a.now c.args.b.now c.args.c.now
    c.args.d.now c.requires c.place.ensures c.place-2.ensures c.place-3.ensures
    c.place-4.ensures
