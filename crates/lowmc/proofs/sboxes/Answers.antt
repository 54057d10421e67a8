-- `lowmc::sboxes` meets its contract.
use mathlib.Core.Path.{◌≡◌}
use lib.ListN.{length}
use Rattle.lowmc.proofs.LentLaws.{in_word}
use Rattle.lowmc.proofs.SboxLaws.{sboxes_block}
use borrow.Author.Rules.{rules}
use Rattle.lowmc.proofs.sboxes.Goals as goal

pub returns : goal.returns
returns c =
    let a = c.args in
    let n : length a.x.words ≡ 4 = search rules in
    sboxes_block a.p.s (in_word c.requires) a.x.words n _ c.sbox_word-top.ensures
