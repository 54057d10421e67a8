-- `lowmc::firsts` meets its contract.
use Rattle.lowmc.proofs.LaneLaws.{starts-holds}
use Rattle.lowmc.proofs.firsts.Goals as goal

pub returns : goal.returns
returns c = starts-holds c.args.s c.requires
