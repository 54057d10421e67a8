-- `round::top` meets its contract.
use native.Mathlib.Omega.{arith}
use Rattle.bits.proofs.WordsLaws.{keep_top}
use Rattle.round.proofs.top.Goals as goal

pub returns : goal.returns
returns c = keep_top c.args.m c.args.x (omega arith) (omega arith)
