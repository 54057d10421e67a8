-- `bits::Block::turned` meets its contract.
use Rattle.std.proofs.Common.{rules, ◌≡◌, get_or, ℕ, ◌<◌}
use Rattle.std.specs.Int.{swap_bytes}
use mir.Syntax.{w64}
use Rattle.bits.proofs.TurnedLaws.{low_words, turn_holds}
use Rattle.bits.proofs.Block.turned.Goals as goal

pub returns : goal.returns
returns c =
    let ws = c.args.self.words in
    let each : (k : ℕ) → k < 4 → get_or c.map.result k 0 ≡ swap_bytes w64 (get_or ws k 0) = λ k h. search rules in
    low_words _ ws (λ k h. rw (each k h) (turn_holds (get_or ws k 0)))
