-- `bits::read_row` meets its contract.
use native.Mathlib.Omega.{arith}
use Rattle.bits.proofs.RowsLaws.{row_read}
use Rattle.bits.proofs.read_row.Goals as goal

pub returns : goal.returns
returns c = row_read c.args.s.now c.args.p c.args.m c.word_at.result (omega arith) c.word_at.ensures
