-- `lowmc::sbox_word_by` meets its contract.
use Rattle.lowmc.proofs.SboxLaws.{sbox-word_by}
use borrow.Author.Rules.{rules}
use Rattle.lowmc.proofs.sbox_word_by.Goals as goal

pub returns : goal.returns
returns c =
    let a = c.args in
    let l = c.split-l in
    let g = c.split-g in
    sbox-word_by a.s a.x l.result l.ensures (search rules) (search rules) (search rules) a.t g.result g.ensures (search rules) (search rules)
