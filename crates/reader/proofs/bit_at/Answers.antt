-- `reader::bit_at` meets its contract.
use Rattle.std.proofs.Common.{arith}
use Rattle.bits.specs.Bytes.{bit, odd}
use Rattle.reader.specs.Reading.{bit_number}
use Rattle.reader.proofs.BitLaws.{found}
use Rattle.reader.proofs.bit_at.Goals as goal

pub returns : goal.returns
unfolding bit odd
returns c = found c.args.s.now (bit_number c.args.at) _ _ c.in_ok-byte.ensures.0 c.in_ok-byte.ensures.1 (omega arith)
