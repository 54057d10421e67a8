-- Tapes are long enough for their shares and gates, and these do not overlap.
use native.Mathlib.Omega.{arith}
use Rattle.bits.specs.Bytes.{width}
use Rattle.circuit.specs.Round.{party0, party1, party2}
use Rattle.circuit.specs.Tapes.{TapesFit}

pub tapes_fit : TapesFit
unfolding TapesFit width
tapes_fit C party0 = omega arith
tapes_fit C party1 = omega arith
tapes_fit C party2 = omega arith
