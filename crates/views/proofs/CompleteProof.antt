-- What the signer shows of a round is what the verifier recomputes, for every challenge.
use mathlib.Core.Path.{◌≡◌, refl, sym, ap, ◌∙◌}
use Prim.Native.Nat.{ℕ, ◌*◌, ◌<◌}
use Rattle.slices.specs.Slices.{Bytes}
use Rattle.bits.specs.Bits.{Bits, Agree}
use Rattle.bits.specs.Bytes.{bits_of, bytes_of}
use Rattle.bits.specs.Rows.{Rows}
use Rattle.bits.proofs.BitsLaws.{xor-rules, up_to_in, ⊕_at}
use Rattle.bits.proofs.BytesLaws.{bits_of_bytes_of, bytes_of_cong}
use Rattle.sets.specs.declared.Set.{Set}
use Rattle.circuit.specs.Lowmc.{Cipher, encryption}
use Rattle.circuit.specs.Round.{Party, party0, party1, party2, next, transcript}
use Rattle.circuit.specs.RoundTheorems.{xor3, Opened, Recomputed, OpeningRecomputes}
use Rattle.circuit.specs.Tapes.{tape_share}
use Rattle.circuit.proofs.LowmcLaws.{encryption_cong}
use Rattle.circuit.proofs.OpeningLaws.{opening_recomputes}
use Rattle.round.specs.Inputs.{input_share}
use Rattle.hashing.specs.Hashing.{commitment}
use Rattle.shape.specs.Form.{Shown}
use Rattle.views.specs.Signed.{shares, share_bits, gate_rows, transcripts, outputs, tapes, commitments, shown}
use Rattle.views.specs.Opened.{share₁, share₂, opening, recomputed_transcript, recomputed_outputs, recomputed_commitments}
use Rattle.views.specs.Complete.{RoundComplete}
use Rattle.views.proofs.PartiesLaws.{at_each}
use Rattle.views.proofs.BytesOfRows.{rows_of_bytes, bytes_of_rows}

-- ---- the signer's shares

module _ (C : Cipher) (sk : Bytes) (ts : Party → Bytes) where
  share_at : (j : Party) (i : ℕ) → i < C.n → share_bits C sk ts j i ≡ input_share C.n (bits_of sk) (ts party0) (ts party1) j i
  unfolding shares
  share_at j i l = ap (λ (f : Bits). f i) (bits_of_bytes_of C.n _) ∙ up_to_in C.n _ i l

  -- the input shares XOR to the first n bits of the key
  shares_are : Agree C.n (xor3 (share_bits C sk ts)) (bits_of sk)
  unfolding xor3
  shares_are i l = rw (⊕_at, ⊕_at, share_at party0 i l, share_at party1 i l, share_at party2 i l) (simp (⊕_at, xor-rules))

-- ---- what the signer shows

module _ (p : Set) (C : Cipher) (salt : Bytes) (t : ℕ) (seeds : Party → Bytes) (sk block : Bytes) where
  abbrev seen : Party → Shown
  seen = shown p C salt t seeds sk block

  abbrev ts : Party → Bytes
  ts = tapes p C salt t seeds

  abbrev xs : Party → Bits
  xs = share_bits C sk ts

  abbrev gs : Party → Rows
  gs = gate_rows C sk ts

  -- the share of an opened party, from its tape or as it is shown
  shown-first : (e : Party) → share₁ p C salt t e (seen e) ≡ shares C sk ts e
  unfolding shown shares tape_share
  shown-first party0 = bytes_of_cong C.n _ _ (λ i l. sym (up_to_in C.n _ i l))
  shown-first party1 = bytes_of_cong C.n _ _ (λ i l. sym (up_to_in C.n _ i l))
  shown-first party2 = refl

  shown-second : (e : Party) → share₂ p C salt t e (seen e) ≡ shares C sk ts (next e)
  unfolding shown shares tape_share
  shown-second party0 = bytes_of_cong C.n _ _ (λ i l. sym (up_to_in C.n _ i l))
  shown-second party1 = refl
  shown-second party2 = bytes_of_cong C.n _ _ (λ i l. sym (up_to_in C.n _ i l))

  rows-first : (e : Party) → (opening p C salt t e (seen e)).tape₁ ≡ gs e
  unfolding opening shown
  rows-first party0 = refl
  rows-first party1 = refl
  rows-first party2 = refl

  rows-second : (e : Party) → (opening p C salt t e (seen e)).tape₂ ≡ gs (next e)
  unfolding opening shown
  rows-second party0 = refl
  rows-second party1 = refl
  rows-second party2 = refl

  opened : (e : Party) → Opened C (bits_of block) xs gs e (opening p C salt t e (seen e))
  unfolding opening shown transcripts
  opened e = record {
    share₁ = ap bits_of (shown-first e);
    share₂ = ap bits_of (shown-second e);
    tape₁ = rows-first e;
    tape₂ = rows-second e;
    transcript₂ = rows_of_bytes (3 * C.s) C.r (transcript C (bits_of block) xs gs (next e)) _ refl;
  }

  module _ (cipher : Bytes) (pair : bytes_of C.n (encryption C (bits_of sk) (bits_of block)) ≡ cipher) (e : Party) where
    again : Recomputed C (bits_of block) (bits_of cipher) xs gs e (opening p C salt t e (seen e))
    unfolding OpeningRecomputes
    again = opening_recomputes C (bits_of block) (bits_of cipher) xs gs e _ (opened e)

    transcript-again : recomputed_transcript p C salt t e (seen e) block cipher ≡ transcripts C sk ts block e
    unfolding recomputed_transcript transcripts
    transcript-again = bytes_of_rows (3 * C.s) C.r _ _ (λ i l g b. ap (λ (x : Bits). x g) (again.transcript i l))

    encrypts : Agree C.n (encryption C (xor3 xs) (bits_of block)) (bits_of cipher)
    encrypts i l =
        ap (λ (x : Bits). x i) (encryption_cong C (xor3 xs) (bits_of sk) (bits_of block) (shares_are C sk ts))
        ∙ (sym (up_to_in C.n _ i l) ∙ (ap (λ (x : Bits). x i) (sym (bits_of_bytes_of C.n _)) ∙ ap (λ (s : Bytes). bits_of s i) pair))

    outputs-again : (j : Party) → recomputed_outputs p C salt t e (seen e) block cipher j ≡ outputs C sk ts block j
    unfolding recomputed_outputs outputs
    outputs-again =
        at_each e (outputs C sk ts block)
        (ap (bytes_of C.n) again.first)
        (ap (bytes_of C.n) again.second)
        (bytes_of_cong C.n _ _ (λ i l. again.last i (encrypts i l)))

    commitments-again : (j : Party) → recomputed_commitments p C salt t e (seen e) block cipher j ≡ commitments p C salt t seeds sk block j
    unfolding recomputed_commitments commitments shown
    commitments-again =
        at_each e (commitments p C salt t seeds sk block)
        (λ k. commitment p (seeds e) (shown-first e k) (transcript-again k) (outputs-again e k))
        (λ k. commitment p (seeds (next e)) (shown-second e k) (transcripts C sk ts block (next e)) (outputs-again (next e) k))
        refl

pub round_complete : RoundComplete
unfolding RoundComplete
round_complete p C salt t seeds sk block cipher pair e = record {
  outputs = outputs-again p C salt t seeds sk block cipher pair e;
  commitments = commitments-again p C salt t seeds sk block cipher pair e;
}
