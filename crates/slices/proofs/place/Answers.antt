-- `slices::place` meets its contract.
use Rattle.slices.proofs.SliceLaws.{put-part}
use Rattle.slices.proofs.place.Goals as goal

pub returns : goal.returns
returns c = put-part c.args.d.now c.args.at c.args.s.now _ c.copy.ensures
