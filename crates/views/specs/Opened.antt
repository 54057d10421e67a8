-- The verifier's round in bytes: what is recomputed from what a signature shows.
use Rattle.std.specs.Prelude.{ℕ, ◌*◌}
use Rattle.slices.specs.Slices.{Bytes}
use Rattle.bits.specs.Bytes.{bits_of, bytes_of}
use Rattle.bits.specs.Rows.{flat}
use Rattle.sets.specs.declared.Set.{Set}
use Rattle.circuit.specs.Lowmc.{Cipher}
use Rattle.circuit.specs.Round.{Party, party0, party1, party2, next, Opening, transcript₁, output₁, output₂, output₃}
use Rattle.circuit.specs.Tapes.{gate_bits, tape_share}
use Rattle.round.specs.Inputs.{opening_of}
use Rattle.hashing.specs.Hashing.{commitment}
use Rattle.shape.specs.Form.{Shown}
use Rattle.views.specs.Parties.{from_party}
use Rattle.views.specs.Signed.{tape_of}

-- the input share of an opened party: that of parties 0 and 1 from the tape, that of party 2 from the signature
abbrev pub opened_share : Cipher → Party → (tape given : Bytes) → Bytes
opened_share L party0 tape given = tape_share L tape
opened_share L party1 tape given = tape_share L tape
opened_share L party2 tape given = given

module _ (set : Set) (L : Cipher) (salt : Bytes) (t : ℕ) (e : Party) (u : Shown) where
  -- the tapes of parties e and e+1: party numbers go into the tape hash, never positions in the pair
  abbrev pub tape₁ : Bytes
  tape₁ = tape_of set L salt t e u.seed1

  abbrev pub tape₂ : Bytes
  tape₂ = tape_of set L salt t (next e) u.seed2

  -- their input shares
  abbrev pub share₁ : Bytes
  share₁ = opened_share L e tape₁ u.share

  abbrev pub share₂ : Bytes
  share₂ = opened_share L (next e) tape₂ u.share

  -- challenge e opens parties e and e+1 mod 3; the transcript of e+1 is taken from the signature
  unfoldable pub opening : Opening
  opening = opening_of L e (bits_of share₁) (bits_of share₂) tape₁ tape₂ u.transcript

  module _ (p C : Bytes) where
    -- the verifier recomputes the transcript of party e
    unfoldable pub recomputed_transcript : Bytes
    recomputed_transcript = bytes_of (gate_bits L) (flat (3 * L.s) (transcript₁ L (bits_of p) e opening))

    -- the output shares of parties e and e+1, and the third: the XOR of two and C
    unfoldable pub recomputed_outputs : Party → Bytes
    recomputed_outputs =
        from_party e (bytes_of L.n (output₁ L (bits_of p) e opening)) (bytes_of L.n (output₂ L (bits_of p) e opening))
        (bytes_of L.n (output₃ L (bits_of p) e opening (bits_of C)))

    -- the commitments of parties e and e+1, and that of e+2 from the signature
    unfoldable pub recomputed_commitments : Party → Bytes
    recomputed_commitments =
        from_party e (commitment set u.seed1 share₁ recomputed_transcript (recomputed_outputs e))
        (commitment set u.seed2 share₂ u.transcript (recomputed_outputs (next e)))
        u.commitment
