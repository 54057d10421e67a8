-- `round::row_from` meets its contract.
use Prim.Native.Nat.{◌*◌}
use Rattle.bits.specs.Bytes.{bits_of}
use Rattle.round.proofs.InputsLaws.{row_of}
use Rattle.round.proofs.row_from.Goals as goal

pub returns : goal.returns
returns c = let a = c.args in row_of (3 * a.p.s) a.at a.i (bits_of a.s.now) _ c.read_row.ensures
