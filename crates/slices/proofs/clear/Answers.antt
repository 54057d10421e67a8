-- `slices::clear` meets its contract.
use Rattle.std.proofs.Common.{rules}
use Rattle.slices.specs.Slices.{over, cleared}
use Rattle.slices.proofs.clear.Goals as goal

pub returns : goal.returns
unfolding cleared over
returns c = search rules
