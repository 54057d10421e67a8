-- `lowmc::sbox_word` meets its contract.
use Rattle.lowmc.proofs.SboxLaws.{sbox-word}
use borrow.Author.Rules.{rules}
use Rattle.lowmc.proofs.sbox_word.Goals as goal

pub returns : goal.returns
returns c =
    let a = c.args in
    let l = c.split-l in
    sbox-word a.s a.x l.result l.ensures (search rules) (search rules) (search rules)
