-- `bits::Strip::read` meets its contract.
use mathlib.Core.Path.{◌≡◌}
use Prim.Native.Nat.{◌*◌}
use lib.ListN.{length}
use Rattle.bits.specs.Bits.{up_to, from}
use Rattle.bits.specs.Bytes.{bits_of}
use Rattle.bits.specs.Rows.{cut, rows_of}
use Rattle.bits.proofs.Strip.read.Given as goal

abbrev pub invariant-loop-i : goal.invariant-loop-i
invariant-loop-i l = (length l.words ≡ 40) × (rows_of l.words ≡ cut l.m (up_to (l.i * l.m) (from l.p (bits_of l.s))))
