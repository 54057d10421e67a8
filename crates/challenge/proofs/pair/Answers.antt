-- `challenge::pair` meets its contract.
use Rattle.challenge.proofs.PairsLaws.{pair_is}
use Rattle.challenge.proofs.pair.Goals as goal

pub returns : goal.returns
returns c = pair_is c.args.s.now c.args.j
