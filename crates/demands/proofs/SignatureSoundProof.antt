-- Demand 3, second half, for signatures: forms with one input of the challenge agree in each round.
use mathlib.Core.Path.{◌≡◌, refl, sym, ap, ◌∙◌}
use Prim.Native.Nat.{ℕ, ◌<◌}
use lib.ListN.{get_or}
use Rattle.slices.specs.Slices.{Bytes}
use Rattle.sets.specs.declared.Set.{Set}
use Rattle.sets.specs.Sets.{IsSet}
use Rattle.circuit.specs.Lowmc.{Cipher}
use Rattle.circuit.specs.Round.{Party, party0, party1, party2}
use Rattle.circuit.specs.Tapes.{party_number}
use Rattle.lowmc.specs.Lent.{cipher_of}
use Rattle.lowmc.specs.Encrypted.{ciphertext, plaintext}
use Rattle.shape.specs.Form.{values_in, salt_in, shown_in}
use Rattle.views.specs.Parties.{party_of}
use Rattle.views.specs.Opened.{recomputed_outputs, recomputed_commitments}
use Rattle.views.specs.Input.{challenge_input, opened_outputs, opened_commitments, verifier_filling}
use Rattle.demands.specs.Sound.{Openings, RoundSound, Run, SignatureSound}
use Rattle.demands.proofs.RunLaws.{sized_in, salts_same, outputs_same, commitments_same}
use Rattle.demands.proofs.RoundSoundProof.{round_sound}

party_of_number : (e : Party) → party_of (party_number e) ≡ e
party_of_number party0 = refl
party_of_number party1 = refl
party_of_number party2 = refl

module _ (p : Set) (q : IsSet p) (keys layers constants public message input : Bytes) (x : Party → Bytes)
    (run : (e : Party) → Run p (cipher_of p keys layers constants) public message input (x e)) (t : ℕ) (l : t < p.t)
    (opened : (e : Party) → get_or (values_in p (x e)) t 0 ≡ party_number e) where
  abbrev C : Cipher
  C = cipher_of p keys layers constants

  abbrev block : Bytes
  block = plaintext p public

  abbrev cipher : Bytes
  cipher = ciphertext p public

  abbrev salt : Bytes
  salt = salt_in p (x party0)

  one_input : (d e : Party) → challenge_input (verifier_filling p C public (x d)) (salt_in p (x d)) public message
      ≡ challenge_input (verifier_filling p C public (x e)) (salt_in p (x e)) public message
  one_input d e = (run d).recomputed ∙ sym (run e).recomputed

  one_salt : (e : Party) → salt_in p (x e) ≡ salt
  one_salt e = salts_same q C public message (x e) (x party0) (run e).exact (run party0).exact (one_input e party0)

  -- the value of round t opens party e
  opens : (e : Party) → party_of (get_or (values_in p (x e)) t 0) ≡ e
  opens e = ap party_of (opened e) ∙ party_of_number e

  outputs_by : (e j : Party) → opened_outputs p C public (x e) t j ≡ recomputed_outputs p C salt t e (shown_in p (x e) t) block cipher j
  outputs_by e j = λ i. recomputed_outputs p C (one_salt e i) t (opens e i) (shown_in p (x e) t) block cipher j

  commitments_by : (e j : Party)
      → opened_commitments p C public (x e) t j ≡ recomputed_commitments p C salt t e (shown_in p (x e) t) block cipher j
  commitments_by e j = λ i. recomputed_commitments p C (one_salt e i) t (opens e i) (shown_in p (x e) t) block cipher j

  openings : Openings p keys layers constants public salt t (λ e. shown_in p (x e) t)
  openings = record {
    sized = λ e. sized_in p (x e) (run e).exact t l;
    same_commitments = λ d e j.
        sym (commitments_by d j)
        ∙ (commitments_same q C public message (x d) (x e) (run d).exact (run e).exact (one_input d e) t l j ∙ commitments_by e j);
    same_outputs = λ d e j.
        sym (outputs_by d j)
        ∙ (outputs_same q C public message (x d) (x e) (run d).exact (run e).exact (one_input d e) t l j ∙ outputs_by e j);
  }

pub signature_sound : SignatureSound
unfolding SignatureSound RoundSound
signature_sound p q keys layers constants public message input c x run t l opened =
    round_sound p q keys layers constants public c (salt_in p (x party0)) t (λ e. shown_in p (x e) t)
    (openings p q keys layers constants public message input x run t l opened)
