-- A signature that reading passes has a form of the set's length; and one that signing makes, whatever its values are, is read
-- again, and the challenge's input is recomputed from it.
use mathlib.Core.Path.{◌≡◌, refl, ap, ap₂, ◌∙◌}
use mathlib.Core.List.{◌++◌}
use Prim.Native.Nat.{ℕ, suc, ◌+◌, ◌*◌, ◌<◌, ◌≤◌}
use native.Mathlib.Nat.{mul-le-mul_right, suc-mul}
use native.Mathlib.Omega.{arith}
use lib.ListN.{length, get_or, length-drop}
use Rattle.slices.specs.Slices.{Bytes}
use Rattle.slices.proofs.SliceLaws.{joined_cong}
use Rattle.sets.specs.declared.Set.{Set}
use Rattle.sets.specs.Sets.{IsSet}
use Rattle.sets.specs.Lengths.{seed_width, salt_length, seeds_length}
use Rattle.circuit.specs.Lowmc.{Cipher}
use Rattle.circuit.specs.Round.{Party, party0, party1, party2}
use Rattle.circuit.specs.Tapes.{party_number}
use Rattle.lowmc.specs.Lent.{cipher_of}
use Rattle.lowmc.specs.Encrypted.{encrypted, ciphertext, plaintext}
use Rattle.shape.specs.Header.{AreValues}
use Rattle.shape.specs.Form.{Shown, Sized, form, values_in, salt_in, shown_in, form_of}
use Rattle.shape.specs.Reading.{reading}
use Rattle.shape.proofs.PartLaws.{length_part}
use Rattle.shape.proofs.ReadingLaws.{given, sound}
use Rattle.shape.proofs.RoundTripsProof.{form-whole}
use Rattle.shape.proofs.ShownLaws.{Fit, fit_sized, length-form_of, values_of_form_of, salt_of_form_of, shown_in_form_of}
use Rattle.shape.proofs.FitLaws.{parts_read, parts_pass}
use Rattle.views.specs.Parties.{party_of, three}
use Rattle.views.specs.Signed.{seed_at, salt_at}
use Rattle.views.specs.Opened.{recomputed_outputs, recomputed_commitments}
use Rattle.views.specs.Input.{by_round, filling, challenge_input, signed_outputs, signed_commitments, signer_filling}
use Rattle.views.specs.Input.{opened_outputs, opened_commitments, verifier_filling}
use Rattle.views.specs.Complete.{Regained}
use Rattle.views.proofs.PartiesLaws.{number_of}
use Rattle.signer.specs.Sign.{shown_at, signature_for}
use Rattle.demands.specs.Sound.{ReadRuns, Reread, HonestRuns}
use Rattle.demands.proofs.HonestRoundProof.{shown-fits, regained}

number_small : (j : Party) → party_number j ≤ 2
number_small party0 = omega arith
number_small party1 = omega arith
number_small party2 = omega arith

three_cong : (f g : Party → Bytes) → ((j : Party) → f j ≡ g j) → three f ≡ three g
three_cong f g h = rw (h party0, h party1, h party2)

by_round_cong : (k : ℕ) (f g : ℕ → Party → Bytes) → ((i : ℕ) → i < k → (j : Party) → f i j ≡ g i j) → by_round k f ≡ by_round k g
unfolding by_round
by_round_cong k f g h = joined_cong k _ _ (λ i l. three_cong (f i) (g i) (h i l))

-- ---- any signature that reading passes

pub read_runs : ReadRuns
unfolding ReadRuns
read_runs p C public message s c = record { exact = (form-whole p s (sound p s c)).exact; recomputed = refl }

-- ---- lent seeds

module _ (p : Set) (seeds : Bytes) (l : length seeds ≡ seeds_length p) where
  length-salt_at : length (salt_at p seeds) ≡ salt_length
  length-salt_at = omega (arith, length-drop (3 * p.t * seed_width p) seeds)

  length-seed_at : (t : ℕ) → t < p.t → (j : Party) → length (seed_at p seeds t j) ≡ seed_width p
  length-seed_at t h j =
      let k = 3 * t + party_number j in
      let m : suc k * seed_width p ≤ 3 * p.t * seed_width p = mul-le-mul_right (seed_width p) (omega (arith, number_small j)) in
      length_part seeds (k * seed_width p) (seed_width p) (omega (arith, suc-mul k (seed_width p)))

-- ---- a signature of the values es

module _ {p : Set} (q : IsSet p) (keys layers constants secret public seeds message es : Bytes)
    (pair : encrypted p keys layers constants secret (plaintext p public) ≡ ciphertext p public)
    (l : length seeds ≡ seeds_length p) (le : length es ≡ p.t) (v : AreValues es) where
  abbrev C : Cipher
  C = cipher_of p keys layers constants

  abbrev us : ℕ → Shown
  us t = shown_at p C secret public seeds t (get_or es t 0)

  fits : (t : ℕ) → t < p.t → Fit p (get_or es t 0) (us t)
  fits t h =
      rw (← (number_of (get_or es t 0) (v t))) at
      (shown-fits q keys layers constants (salt_at p seeds) t (seed_at p seeds t) (length-seed_at p seeds l t h) secret (plaintext p public)
      (party_of (get_or es t 0)))

  sized : (t : ℕ) → t < p.t → Sized p (us t)
  sized t h = fit_sized (fits t h)

  abbrev x : Bytes
  x = form_of p es (salt_at p seeds) us

  ls : length (salt_at p seeds) ≡ salt_length
  ls = length-salt_at p seeds l

  values_are : values_in p x ≡ es
  values_are = values_of_form_of p es (salt_at p seeds) us le ls sized

  salt_is : salt_in p x ≡ salt_at p seeds
  salt_is = salt_of_form_of p es (salt_at p seeds) us le ls sized

  module _ (t : ℕ) (h : t < p.t) where
    shown_is : shown_in p x t ≡ us t
    shown_is = shown_in_form_of p es (salt_at p seeds) us le ls sized t h

    again : (e : Party) → Regained p C (salt_at p seeds) t (seed_at p seeds t) secret (plaintext p public) (ciphertext p public) e
    again =
        regained q keys layers constants (salt_at p seeds) t (seed_at p seeds t) (length-seed_at p seeds l t h) secret (plaintext p public)
        (ciphertext p public) pair

    outputs_are : (j : Party) → opened_outputs p C public x t j ≡ signed_outputs p C secret public seeds t j
    outputs_are j =
        (λ i. recomputed_outputs p C (salt_is i) t (party_of (get_or (values_are i) t 0)) (shown_is i) (plaintext p public) (ciphertext p public) j)
        ∙ (again (party_of (get_or es t 0))).outputs j

    commitments_are : (j : Party) → opened_commitments p C public x t j ≡ signed_commitments p C secret public seeds t j
    commitments_are j =
        (λ i. recomputed_commitments p C (salt_is i) t (party_of (get_or (values_are i) t 0)) (shown_is i) (plaintext p public) (ciphertext p public) j)
        ∙ (again (party_of (get_or es t 0))).commitments j

  filling_is : verifier_filling p C public x ≡ signer_filling p C secret public seeds
  unfolding verifier_filling signer_filling filling
  filling_is =
      ap₂ (λ (a b : Bytes). a ++ b) (by_round_cong p.t _ _ outputs_are) (by_round_cong p.t _ _ commitments_are)

  form_is : form p (signature_for p C secret public seeds es) ≡ x
  unfolding signature_for reading
  form_is = (given _ _ _ (parts_read q es (salt_at p seeds) us le ls v fits)).1

  pub reread : Reread p C secret public seeds message es
  unfolding signature_for
  reread = record {
    read = parts_pass q es (salt_at p seeds) us le ls v fits;
    values = ap (values_in p) form_is ∙ values_are;
    run = rw form_is (record {
      exact = length-form_of p es (salt_at p seeds) us le ls sized;
      recomputed = λ i. challenge_input (filling_is i) (salt_is i) public message;
    });
  }

pub honest_runs : HonestRuns
unfolding HonestRuns
honest_runs p q keys layers constants secret public seeds message es pair l le v =
    reread q keys layers constants secret public seeds message es pair l le v
