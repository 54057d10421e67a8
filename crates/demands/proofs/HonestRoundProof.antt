-- What signing shows of a round fits, and is recomputed as the signer had it: for the three challenges these are openings that agree.
use mathlib.Core.Path.{◌≡◌, refl, sym, ◌∙◌}
use Prim.Native.Nat.{ℕ, ◌*◌}
use native.Mathlib.Omega.{arith}
use lib.ListN.{length, replicate}
use Rattle.slices.specs.Slices.{Bytes}
use Rattle.bits.specs.Bytes.{Packed}
use Rattle.bits.proofs.BytesLaws.{packed}
use Rattle.sets.specs.declared.Set.{Set}
use Rattle.sets.specs.Sets.{IsSet}
use Rattle.sets.specs.Lengths.{w, seed_width}
use Rattle.circuit.specs.Lowmc.{Cipher}
use Rattle.circuit.specs.Round.{Party, party0, party1, party2, next}
use Rattle.circuit.specs.Tapes.{party_number}
use Rattle.lowmc.specs.Lent.{cipher_of}
use Rattle.lowmc.specs.Encrypted.{encrypted, ciphertext, plaintext}
use Rattle.hashing.specs.Hashing.{commitment}
use Rattle.hashing.proofs.HashingLaws.{length-h}
use Rattle.shape.proofs.PaddingLaws.{packed-zeros}
use Rattle.shape.proofs.ShownLaws.{Fit, fit_sized}
use Rattle.views.specs.Signed.{shares, transcripts, tapes, commitments, shown_share, shown}
use Rattle.views.specs.Complete.{Regained, RoundComplete}
use Rattle.views.proofs.CompleteProof.{round_complete}
use Rattle.demands.specs.Sound.{HonestRound}

module _ {p : Set} (q : IsSet p) (keys layers constants salt : Bytes) (t : ℕ) (seeds : Party → Bytes)
    (l : (j : Party) → length (seeds j) ≡ seed_width p) (sk block : Bytes) where
  abbrev C : Cipher
  C = cipher_of p keys layers constants

  abbrev ts : Party → Bytes
  ts = tapes p C salt t seeds

  share-packed : (j : Party) → Packed p.n (shares C sk ts j)
  unfolding shares
  share-packed j = packed p.n _

  shown-share-packed : (e : Party) → Packed p.n (shown_share p C salt t seeds sk block e)
  shown-share-packed party0 = packed-zeros p.n
  shown-share-packed party1 = share-packed party2
  shown-share-packed party2 = share-packed party2

  no_share : (e : Party) → party_number e ≡ 0 → shown_share p C salt t seeds sk block e ≡ replicate (w p) 0
  no_share party0 z = refl
  no_share party1 z = absurd (omega arith)
  no_share party2 z = absurd (omega arith)

  pub shown-fits : (e : Party) → Fit p (party_number e) (shown p C salt t seeds sk block e)
  unfolding shown commitments commitment transcripts
  shown-fits e = record {
    commitment = length-h q 0 _;
    transcript = packed (3 * p.s * p.r) _;
    seed1 = l e;
    seed2 = l (next e);
    share = shown-share-packed e;
    none = no_share e;
  }

  module _ (cipher : Bytes) (pair : encrypted p keys layers constants sk block ≡ cipher) where
    pub regained : (e : Party) → Regained p C salt t seeds sk block cipher e
    unfolding encrypted RoundComplete
    regained = round_complete p C salt t seeds sk block cipher pair

pub honest_round : HonestRound
unfolding HonestRound
honest_round p q keys layers constants secret public pair salt t seeds l =
    let again = regained q keys layers constants salt t seeds l secret (plaintext p public) (ciphertext p public) pair in
    record {
      sized = λ e. fit_sized (shown-fits q keys layers constants salt t seeds l secret (plaintext p public) e);
      same_commitments = λ d e j. (again d).commitments j ∙ sym ((again e).commitments j);
      same_outputs = λ d e j. (again d).outputs j ∙ sym ((again e).outputs j);
    }
