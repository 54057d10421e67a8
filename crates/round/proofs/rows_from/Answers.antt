-- `round::rows_from` meets its contract.
use Prim.Native.Nat.{◌*◌}
use Rattle.bits.specs.Bits.{from}
use Rattle.bits.specs.Bytes.{bits_of}
use Rattle.round.proofs.InputsLaws.{rows_of_lem}
use Rattle.round.proofs.rows_from.Goals as goal

pub returns : goal.returns
returns c = let a = c.args in rows_of_lem (3 * a.p.s) a.p.r (from a.at (bits_of a.s.now)) _ c.read.ensures
