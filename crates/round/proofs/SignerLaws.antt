-- Laws of the signer's loop: three parties' states and transcripts after i rounds, and the encryption's state that gives the third.
use mathlib.Core.Path.{◌≡◌, sym, ap, ◌∙◌, subst, subst⁻¹}
use mathlib.Core.List.{List}
use Prim.Native.Nat.{ℕ, ◌+◌, ◌*◌, ◌≤◌, ◌<◌}
use native.Mathlib.Omega.{arith}
use native.Mathlib.Numerals.{add-one}
use lib.ListN.{length, set, replicate}
use Rattle.bits.specs.Bits.{Bits, ◌⊕◌, up_to}
use Rattle.bits.specs.Words.{word_bits}
use Rattle.bits.specs.Rows.{Rows}
use Rattle.bits.proofs.BitsLaws.{⊕-rules}
use Rattle.circuit.specs.Lowmc.{Cipher, state_after}
use Rattle.circuit.specs.Round.{Party, party0, party1, party2, next, gates, advance, into_share, state_share, transcript, output_share}
use Rattle.circuit.specs.RoundTheorems.{xor3}
use Rattle.circuit.proofs.RoundLaws.{signer_follows}
use Rattle.round.specs.Engine.{Written, Simulated, share_in, said}
use Rattle.round.specs.Inner.{Begun, Stepped}
use Rattle.round.specs.declared.View.{View}
use Rattle.round.proofs.GateLaws.{advance-row}
use Rattle.round.proofs.EngineLaws.{three, written_none, written-more}

-- what two shares lack of the whole is the third
third_of : (w a b c a' b' z : Bits) → a ⊕ b ⊕ c ≡ w → a' ≡ a → b' ≡ b → z ≡ w ⊕ a' ⊕ b' → z ≡ c
third_of w a b c a' b' z e ea eb ez = ez ∙ ((λ k. sym e k ⊕ ea k ⊕ eb k) ∙ simp ⊕-rules)

-- i rounds are done: s are the states, ws the words of the transcripts
pub record Done (C : Cipher) (p : Bits) (x : Party → Bits) (t : Party → Rows) (i : ℕ) (s : Party → Bits) (ws : Party → List ℕ) : Type 0 where
  pub states : (j : Party) → s j ≡ state_share C p x t i j
  pub rows : (j : Party) → Written (3 * C.s) i (transcript C p x t j) (ws j)

module _ (C : Cipher) (p : Bits) (x : Party → Bits) (t : Party → Rows) where
  -- two states and the encryption's give the third
  with_third : (i : ℕ) → i ≤ C.r → (s : Party → Bits) (w : Bits) → w ≡ state_after C (xor3 x) p i
      → s party0 ≡ state_share C p x t i party0 → s party1 ≡ state_share C p x t i party1 → s party2 ≡ w ⊕ s party0 ⊕ s party1
      → (j : Party) → s j ≡ state_share C p x t i j
  unfolding xor3
  with_third i l s w ew ea eb ec =
      three (λ j. s j ≡ state_share C p x t i j) ea eb
      (third_of w _ _ _ _ _ _ (signer_follows C p x t i l ∙ sym ew) ea eb ec)

  -- no round is done
  pub done_none : (n : ℕ) (w : Bits) (s : Party → Bits) (ws : Party → List ℕ) → ((j : Party) → ws j ≡ replicate n 0)
      → w ≡ state_after C (xor3 x) p 0 → Begun C p x w s → Done C p x t 0 s ws
  unfolding state_share
  done_none n w s ws e ew h = record {
    states = with_third 0 (omega arith) s w ew h.first h.second h.third;
    rows = λ j. subst⁻¹ (λ (l : List ℕ). Written (3 * C.s) 0 (transcript C p x t j) l) (e j) (written_none _ n _);
  }

  -- one round more: u are the rows of the tapes, g the words of the gates
  module _ (i : ℕ) (s u : Party → Bits) (g : Party → ℕ) (hs : (j : Party) → s j ≡ state_share C p x t i j) (hu : (j : Party) → u j ≡ t j i)
      (hg : (j : Party) → word_bits (g j) ≡ up_to (3 * C.s) (gates (s j) (s (next j)) (u j) (u (next j)))) where
    row : (j : Party) → word_bits (g j) ≡ up_to (3 * C.s) (transcript C p x t j i)
    unfolding transcript
    row j = hg j ∙ (λ k. up_to (3 * C.s) (gates (hs j k) (hs (next j) k) (hu j k) (hu (next j) k)))

    next-state : (j : Party) (y : Bits) → y ≡ advance C i (x j) (into_share j (C.roundconstant i)) (s j) (word_bits (g j)) → y ≡ state_share C p x t (i + 1) j
    unfolding state_share transcript
    next-state j y e =
        e
        ∙ (advance-row C i (x j) (into_share j (C.roundconstant i)) (s j) (transcript C p x t j i) (g j) (row j)
        ∙ (ap (λ (z : Bits). advance C i (x j) (into_share j (C.roundconstant i)) z (transcript C p x t j i)) (hs j)
        ∙ ap (λ (k : ℕ). state_share C p x t k j) (sym (add-one i))))

  pub done_more : (i : ℕ) (s u y : Party → Bits) (g : Party → ℕ) (w : Bits) (ws vs : Party → List ℕ) → i < C.r
      → ((j : Party) → i < length (ws j)) → ((j : Party) → vs j ≡ set (ws j) i (g j))
      → ((j : Party) → u j ≡ t j i)
      → ((j : Party) → word_bits (g j) ≡ up_to (3 * C.s) (gates (s j) (s (next j)) (u j) (u (next j))))
      → w ≡ state_after C (xor3 x) p (i + 1) → Stepped C i x s (λ j. word_bits (g j)) w y
      → Done C p x t i s ws → Done C p x t (i + 1) y vs
  done_more i s u y g w ws vs l lw ev hu hg ew h d =
      let r = row i s u g d.states hu hg in
      let n = next-state i s u g d.states hu hg in
      record {
        states = with_third (i + 1) (omega arith) y w ew (n party0 (y party0) h.first) (n party1 (y party1) h.second) h.third;
        rows = λ j. subst⁻¹ (λ (k : List ℕ). Written (3 * C.s) (i + 1) (transcript C p x t j) k) (ev j)
            (written-more _ i _ (ws j) (g j) (lw j) (r j) (d.rows j));
      }

  -- all rounds
  pub done_all : (i : ℕ) → i ≡ C.r → (v : View) → Done C p x t i (share_in v.out) (said v) → Simulated C p x t v
  unfolding output_share
  done_all i q v d = record {
    outputs = λ j. d.states j ∙ ap (λ (k : ℕ). state_share C p x t k j) q;
    transcripts = λ j. at j (d.rows j);
  }
    where
      at : (j : Party) {ws : List ℕ} → Written (3 * C.s) i (transcript C p x t j) ws → Written (3 * C.s) C.r (transcript C p x t j) ws
      at j {ws} h = subst (λ (k : ℕ). Written (3 * C.s) k (transcript C p x t j) ws) q h
