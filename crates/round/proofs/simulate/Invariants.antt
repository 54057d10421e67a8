-- `round::simulate` meets its contract.
use Prim.Native.Nat.{◌≤◌}
use mathlib.Core.Path.{◌≡◌}
use lib.ListN.{length}
use Rattle.bits.specs.Words.{block_bits}
use Rattle.circuit.specs.Round.{Party}
use Rattle.lowmc.specs.Cipher.{cipher}
use Rattle.round.specs.Engine.{share_in, said}
use Rattle.round.specs.Inputs.{tapes_of}
use Rattle.round.proofs.SignerLaws.{Done}
use Rattle.round.proofs.simulate.Given as goal

abbrev pub invariant-loop-i : goal.invariant-loop-i
invariant-loop-i l = record {
  rounds : l.tables.set.r ≤ 38;
  size : (j : Party) → length (said l.v j) ≡ 40;
  done : Done (cipher l.tables) (block_bits l.fn.plain) (share_in l.x) (tapes_of (cipher l.tables) l.t0 l.t1 l.t2) l.i (share_in l.v.out) (said l.v);
}
