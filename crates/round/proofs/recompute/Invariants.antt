-- `round::recompute` meets its contract.
use mathlib.Core.Path.{◌≡◌}
use Prim.Native.Nat.{◌≤◌}
use lib.ListN.{length}
use Rattle.bits.specs.Words.{block_bits}
use Rattle.circuit.specs.Round.{Party}
use Rattle.circuit.specs.Tapes.{party_number}
use Rattle.lowmc.specs.Cipher.{cipher}
use Rattle.lowmc.specs.Vectors.{at}
use Rattle.round.specs.Engine.{opening_on_words}
use Rattle.round.proofs.VerifierLaws.{Followed}
use Rattle.round.proofs.recompute.Given as goal

abbrev pub invariant-loop-i : goal.invariant-loop-i
invariant-loop-i l = record {
  rounds : l.tables.set.r ≤ 38;
  size : length l.words ≡ 40;
  followed : (j : Party)
      → l.fn.e ≡ party_number j
      → Followed (cipher l.tables) (block_bits l.fn.plain) j
      (opening_on_words l.fn.share1 l.fn.share2 l.tape1 l.tape2 l.given) l.i (block_bits (at l.s 0)) (block_bits (at l.s 1)) l.words;
}
