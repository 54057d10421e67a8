-- `round::all_states` meets its contract.
use mathlib.Core.Path.{◌≡◌}
use Prim.Native.Nat.{ℕ, ◌≤◌}
use lib.ListN.{length}
use Rattle.bits.specs.Words.{block_bits}
use Rattle.circuit.specs.Lowmc.{state_after}
use Rattle.lowmc.specs.Cipher.{cipher}
use Rattle.lowmc.specs.Vectors.{at}
use Rattle.round.proofs.all_states.Given as goal

abbrev pub invariant-loop-i : goal.invariant-loop-i
invariant-loop-i l = record {
  rounds : l.tables.set.r ≤ 38;
  size : length l.states ≡ 40;
  state : block_bits l.x ≡ state_after (cipher l.tables) (block_bits l.key) (block_bits l.fn.block) l.i;
  traced : (k : ℕ) → k ≤ l.i → block_bits (at l.states k) ≡ state_after (cipher l.tables) (block_bits l.key) (block_bits l.fn.block) k;
}
