-- The signer's round in bytes, from three seeds, and what a signature shows of it.
use Rattle.std.specs.Prelude.{ℕ, ◌+◌, ◌*◌, drop, replicate}
use Rattle.slices.specs.Slices.{Bytes, part}
use Rattle.bits.specs.Bits.{Bits}
use Rattle.bits.specs.Bytes.{bits_of, bytes_of, width}
use Rattle.bits.specs.Rows.{Rows, flat}
use Rattle.sets.specs.declared.Set.{Set}
use Rattle.sets.specs.Lengths.{seed_width}
use Rattle.circuit.specs.Lowmc.{Cipher}
use Rattle.circuit.specs.Round.{Party, party0, party1, party2, next, third, transcript, output_share}
use Rattle.circuit.specs.Tapes.{party_number, gate_bits, tape_length}
use Rattle.round.specs.Inputs.{input_share, tapes_of}
use Rattle.hashing.specs.Hashing.{tape, commitment}
use Rattle.shape.specs.Form.{Shown}

-- ---- seeds are lent whole

-- the seed of round t and party j starts at (3t+j)·w
abbrev pub seed_at : Set → (seeds : Bytes) → ℕ → Party → Bytes
seed_at set seeds t j = part seeds ((3 * t + party_number j) * seed_width set) (seed_width set)

-- the salt is last
abbrev pub salt_at : Set → (seeds : Bytes) → Bytes
salt_at set seeds = drop (3 * set.t * seed_width set) seeds

-- ---- the round over tapes

module _ (L : Cipher) (sk : Bytes) (tapes : Party → Bytes) where
  -- shares 0 and 1 are the first n bits of their tapes; share 2 is sk XOR both
  unfoldable pub shares : Party → Bytes
  shares j = bytes_of L.n (input_share L.n (bits_of sk) (tapes party0) (tapes party1) j)

  abbrev pub share_bits : Party → Bits
  share_bits j = bits_of (shares j)

  -- the gates' bits of the three tapes
  abbrev pub gate_rows : Party → Rows
  gate_rows = tapes_of L (tapes party0) (tapes party1) (tapes party2)

  module _ (p : Bytes) where
    -- a transcript is padded with zero bits
    unfoldable pub transcripts : Party → Bytes
    transcripts j = bytes_of (gate_bits L) (flat (3 * L.s) (transcript L (bits_of p) share_bits gate_rows j))

    -- the output shares
    unfoldable pub outputs : Party → Bytes
    outputs j = bytes_of L.n (output_share L (bits_of p) share_bits gate_rows j)

-- ---- the round over seeds

-- the tape of party j in round t
unfoldable pub tape_of : Set → Cipher → (salt : Bytes) → (t : ℕ) → Party → (seed : Bytes) → Bytes
tape_of set L salt t j seed = tape set seed salt t (party_number j) (tape_length L j)

module _ (set : Set) (L : Cipher) (salt : Bytes) (t : ℕ) (seeds : Party → Bytes) where
  -- the three tapes
  abbrev pub tapes : Party → Bytes
  tapes j = tape_of set L salt t j (seeds j)

  module _ (sk p : Bytes) where
    -- the three commitments
    unfoldable pub commitments : Party → Bytes
    commitments j = commitment set (seeds j) (shares L sk tapes j) (transcripts L sk tapes p j) (outputs L sk tapes p j)

    -- the input share of party 2 if e is 1 or 2; zeros where e is 0
    abbrev pub shown_share : Party → Bytes
    shown_share party0 = replicate (width L.n) 0
    shown_share party1 = shares L sk tapes party2
    shown_share party2 = shares L sk tapes party2

    -- challenge e gives the commitment of party e+2, the transcript of e+1, the seeds of e and e+1, and that share
    unfoldable pub shown : Party → Shown
    shown e = record {
      commitment = commitments (third e);
      transcript = transcripts L sk tapes p (next e);
      seed1 = seeds e;
      seed2 = seeds (next e);
      share = shown_share e;
    }
