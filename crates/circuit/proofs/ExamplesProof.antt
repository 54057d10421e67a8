-- P1 to P8 and P11 hold: computed.
use mathlib.Core.Path.{refl}
use Prim.Native.Nat.{◌*◌}
use native.Mathlib.Omega.{arith}
use borrow.Author.Tests.{lt-ltb}
use Rattle.bits.specs.Bits.{◌⊻◌, up_to}
use Rattle.circuit.specs.Lowmc.{sbox, in_three, sboxes}
use Rattle.circuit.specs.Gates.{left_factor, right_factor}
use Rattle.circuit.specs.Round.{gate, gates}
use Rattle.circuit.specs.Examples.{sbox_on, SboxExamples, gate_on, GateExample}

pub sbox_examples : SboxExamples
unfolding SboxExamples sbox_on sboxes sbox in_three up_to ◌⊻◌
sbox_examples s h = rw (lt-ltb 0 (3 * s) (omega arith), lt-ltb 1 (3 * s) (omega arith), lt-ltb 2 (3 * s) (omega arith))

pub gate_example : GateExample
unfolding GateExample gate_on gates gate left_factor right_factor in_three up_to ◌⊻◌
gate_example = refl
