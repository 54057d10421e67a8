-- `verifier::opened_share` meets its contract.
use Rattle.verifier.proofs.OpenedLaws.{share-given, share-taken}
use borrow.Author.Rules.{rules}
use Rattle.verifier.proofs.opened_share.Goals as goal

pub returns-then-j-eq2 : goal.returns-then-j-eq2
returns-then-j-eq2 c =
    let a = c.args in
    share-given a.p a.j a.tape.now a.given.now _ (search rules) _ (c.requires.3 (search rules)) c.copy.ensures

pub returns : goal.returns
returns c =
    let a = c.args in
    share-taken a.p a.j a.tape.now a.given.now _ (search rules) _ c.tape_share.ensures c.stored.ensures
