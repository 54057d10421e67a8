-- What the signer shows of a round for any challenge is recomputed as the signer had it: a statement.
use Rattle.std.specs.Prelude.{◌≡◌, ℕ}
use Rattle.slices.specs.Slices.{Bytes}
use Rattle.bits.specs.Bytes.{bits_of, bytes_of}
use Rattle.sets.specs.declared.Set.{Set}
use Rattle.circuit.specs.Lowmc.{Cipher, encryption}
use Rattle.circuit.specs.Round.{Party}
use Rattle.views.specs.Signed.{tapes, outputs, commitments, shown}
use Rattle.views.specs.Opened.{recomputed_outputs, recomputed_commitments}

-- the verifier's output shares and commitments for challenge e are the signer's
pub record Regained (set : Set) (L : Cipher) (salt : Bytes) (t : ℕ) (seeds : Party → Bytes) (sk p C : Bytes) (e : Party) : Type 0 where
  pub outputs : (j : Party)
      → recomputed_outputs set L salt t e (shown set L salt t seeds sk p e) p C j ≡ outputs L sk (tapes set L salt t seeds) p j
  pub commitments : (j : Party)
      → recomputed_commitments set L salt t e (shown set L salt t seeds sk p e) p C j ≡ commitments set L salt t seeds sk p j

-- where LowMC of p under sk is C, for every challenge
unfoldable pub RoundComplete : Type 0
RoundComplete =
    (set : Set) (L : Cipher) (salt : Bytes) (t : ℕ) (seeds : Party → Bytes) (sk p C : Bytes)
    → bytes_of L.n (encryption L (bits_of sk) (bits_of p)) ≡ C → (e : Party) → Regained set L salt t seeds sk p C e
