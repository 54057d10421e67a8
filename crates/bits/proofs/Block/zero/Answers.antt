-- `bits::Block::zero` meets its contract.
use Rattle.bits.proofs.WordsLaws.{list_zeros}
use Rattle.bits.proofs.Block.zero.Goals as goal

pub returns : goal.returns
returns c = list_zeros
