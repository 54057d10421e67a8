-- `round::tape_rows` meets its contract.
use Rattle.round.proofs.InputsLaws.{taped_two, taped_other}
use Rattle.round.proofs.tape_rows.Goals as goal

pub returns-then-k-eq2 : goal.returns-then-k-eq2
returns-then-k-eq2 c = let a = c.args in taped_two a.p a.k a.tape.now _ c.if-k-eq2.true c.rows_from.ensures

pub returns : goal.returns
returns c = let a = c.args in taped_other a.p a.k a.tape.now _ c.if-k-eq2.false c.rows_from-2.ensures
