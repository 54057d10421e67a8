-- `bits::Block::xor` meets its contract.
use Rattle.std.proofs.Common.{rules}
use Rattle.bits.proofs.WordsLaws.{list_xor}
use Rattle.bits.proofs.Block.xor.Goals as goal

pub returns : goal.returns
returns c = list_xor c.args.self.words c.args.other.words c.from_fn.result (search rules) (search rules) c.from_fn.ensures.items.long (λ k l. search rules)
