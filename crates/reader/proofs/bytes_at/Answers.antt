-- `reader::bytes_at` meets its contract.
use Rattle.std.proofs.Common.{sym}
use Rattle.reader.specs.Reading.{bit_number}
use Rattle.reader.proofs.FollowLaws.{filled}
use Rattle.reader.proofs.bytes_at.Goals as goal

pub returns : goal.returns
returns c = (
  sym c.in-Some.ensures.0,
  filled c.args.s.now c.args.out.now _ (bit_number c.args.at) _ c.in-Some.ensures.0 c.in-Some.ensures.1 c.copy.ensures,
)
