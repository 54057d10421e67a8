-- `reader::start_of` meets its contract: what byte and bit say together, by arithmetic.
use Rattle.std.proofs.Common.{arith}
use Rattle.reader.specs.Reading.{bit_number}
use Rattle.reader.proofs.FollowLaws.{start, outside, told}
use Rattle.reader.proofs.start_of.Goals as goal

pub returns-in_err-start : goal.returns-in_err-start
returns-in_err-start c =
    rw c.from_residual.ensures
    (outside c.args.s.now (bit_number c.args.at) c.args.n (omega (arith, c.in_err-start.ensures, start c.args.at _ c.whole.ensures)))

pub returns-in_err-left : goal.returns-in_err-left
returns-in_err-left c =
    rw c.from_residual-in_err-left.ensures
    (outside c.args.s.now (bit_number c.args.at) c.args.n
    (omega (arith, c.in_err-left.ensures, c.in_ok-start.ensures, start c.args.at _ c.whole.ensures)))

pub returns : goal.returns
returns c =
    rw c.then_some.ensures
    (told c.args.s.now (bit_number c.args.at) c.args.n _ _
    (omega (arith, c.in_ok-start.ensures, start c.args.at _ c.whole.ensures))
    (omega (arith, c.in_ok-left.ensures)) (omega (arith, c.in_ok-left.ensures)))
