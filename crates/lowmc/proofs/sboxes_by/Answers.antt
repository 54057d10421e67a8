-- `lowmc::sboxes_by` meets its contract.
use mathlib.Core.Path.{◌≡◌}
use lib.ListN.{length}
use Rattle.bits.specs.Words.{word_bits}
use Rattle.lowmc.proofs.LentLaws.{in_word}
use Rattle.lowmc.proofs.SboxLaws.{sboxes_by_block}
use borrow.Author.Rules.{rules}
use Rattle.lowmc.proofs.sboxes_by.Goals as goal

pub returns : goal.returns
returns c =
    let a = c.args in
    let n : length a.x.words ≡ 4 = search rules in
    sboxes_by_block a.p.s (in_word c.requires) a.x.words n _ (word_bits a.t) c.sbox_word_by-top.ensures
