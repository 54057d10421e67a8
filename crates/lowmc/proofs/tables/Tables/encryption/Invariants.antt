-- `lowmc::Tables::encryption` meets its contract.
use mathlib.Core.Path.{◌≡◌}
use Rattle.bits.specs.Words.{block_bits}
use Rattle.circuit.specs.Lowmc.{state_after}
use Rattle.lowmc.specs.Cipher.{cipher}
use Rattle.lowmc.proofs.tables.Tables.encryption.Given as goal

abbrev pub invariant-loop-i : goal.invariant-loop-i
invariant-loop-i l = block_bits l.x ≡ state_after (cipher l.self) (block_bits l.key) (block_bits l.fn.block) l.i
