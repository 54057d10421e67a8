-- `lowmc::left` meets its contract.
use mathlib.Core.Path.{◌≡◌}
use lib.ListN.{length, get_or}
use Rattle.lowmc.proofs.LentLaws.{in_word}
use Rattle.lowmc.proofs.SboxLaws.{left_word, left_block}
use borrow.Author.Rules.{rules}
use Rattle.lowmc.proofs.left.Goals as goal

pub returns : goal.returns
returns c =
    let a = c.args in
    let l = c.split-l in
    let n : length a.x.words ≡ 4 = search rules in
    left_block a.p.s (in_word c.requires) a.x.words n _
    (left_word a.p.s (get_or a.x.words 0 0) l.result l.ensures (search rules) (search rules) (search rules))
