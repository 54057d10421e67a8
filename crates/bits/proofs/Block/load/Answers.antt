-- `bits::Block::load` meets its contract.
use Rattle.std.proofs.Common.{ap, ◌∙◌, rules, get_or, ℕ, ◌<◌, ◌*◌, arith}
use Rattle.bits.specs.Words.{Holds}
use Rattle.bits.specs.Bits.{from}
use Rattle.bits.specs.Bytes.{bits_of}
use Rattle.bits.proofs.BytesLaws.{bits_past}
use Rattle.bits.proofs.WordsLaws.{words_hold}
use Rattle.bits.proofs.Block.load.Goals as goal

pub returns : goal.returns
returns c =
    let s = c.args.s.now in
    let word : (k : ℕ) → k < 4 → Holds (from (8 * (8 * k)) (bits_of s)) (get_or c.from_fn.result k 0) = λ k l. search rules in
    words_hold (bits_of s) c.from_fn.result c.from_fn.ensures.items.long (λ k l i h. word k l i h ∙ ap (bits_of s) (omega arith)) (λ i h. bits_past s i (omega arith))
