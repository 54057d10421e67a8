-- A round whose parts fit passes the checks of writing; and what signing gets by writing parts that fit: a signature that reads as
-- its form.
use mathlib.Core.Path.{◌≡◌, refl, sym, ap, ◌∙◌}
use mathlib.Core.Bool.{Bool, true, false, ◌&&◌}
use mathlib.Core.List.{List, []}
use Prim.Native.Nat.{ℕ, zero, suc, ◌+◌, ◌≤◌, ◌<◌}
use native.Mathlib.Omega.{arith}
use native.Mathlib.Numerals.{add-one}
use lib.Dec.{eqb}
use lib.ListN.{length, take, drop, get_or}
use lib.Seq.{drop-drop, get_or-take, take-length}
use borrow.Author.Tests.{lt-ltb, eqb-true, eqb-false}
use Rattle.slices.specs.Slices.{Bytes, part}
use Rattle.sets.specs.declared.Set.{Set}
use Rattle.sets.specs.Sets.{IsSet}
use Rattle.sets.specs.Lengths.{w, seed_width, transcript_length, salt_length, round_least, unpacked_length, transcript_bits}
use Rattle.answers.specs.Answers.{Fine, first}
use Rattle.answers.specs.Outcome.{gives}
use Rattle.shape.specs.Fields.{all, is_zero, zero_padded, clean_slots}
use Rattle.shape.specs.Header.{is_value, AreValues}
use Rattle.shape.specs.Rounds.{round_fields, rounds_fields, fields}
use Rattle.shape.specs.Form.{values_in, signature, Shown, Sized, form_of, slot_at, shown_in}
use Rattle.shape.specs.Reading.{read_checks, reading, writing}
use Rattle.shape.specs.RoundTrips.{WrittenIsRead}
use Rattle.shape.proofs.PaddingLaws.{all_each, zeros-all, padded-take, padded-bytes, packed-padded}
use Rattle.shape.proofs.RoundLaws.{slots_zero, slots_other}
use Rattle.shape.proofs.ReadingLaws.{unless-fine, sound_passes, Whole, whole_passes}
use Rattle.shape.proofs.RoundTripsProof.{length-values_in, signature_sound, written_is_read}
use Rattle.shape.proofs.FormLaws.{slots_more}
use Rattle.shape.proofs.ShownLaws.{Fit, fit_sized, length-form_of, values_of_form_of, value_of_form_of, shown_in_form_of}
use Rattle.shape.proofs.SetFacts.{seeds-whole}

both : {a b : Bool} → a ≡ true → b ≡ true → (a && b) ≡ true
both e g = rw (e, g)

-- ---- one round

module _ {p : Set} (q : IsSet p) (x : Bytes) (k e : ℕ) where
  abbrev at : ℕ
  at = slot_at p k

  transcript-padding : zero_padded (transcript_bits p) (drop p.digest (drop at x)) ≡ zero_padded (transcript_bits p) (part x (at + p.digest) (transcript_length p))
  transcript-padding = rw drop-drop (sym (padded-take (transcript_bits p) (drop (at + p.digest) x)))

  share-place : drop (round_least p) (drop at x) ≡ drop (at + p.digest + transcript_length p + seed_width p + seed_width p) x
  share-place = let g : at + round_least p ≡ at + p.digest + transcript_length p + seed_width p + seed_width p = omega arith in rw (drop-drop, g)

  share-padding : zero_padded p.n (drop (round_least p) (drop at x))
      ≡ zero_padded p.n (part x (at + p.digest + transcript_length p + seed_width p + seed_width p) (w p))
  share-padding = rw share-place (sym (padded-take p.n (drop (at + p.digest + transcript_length p + seed_width p + seed_width p) x)))

  -- a round that fits has clean slots
  pub fit_clean : Fit p e (shown_in p x k) → clean_slots (round_fields p e) (drop at x) ≡ true
  unfolding shown_in
  fit_clean h = go (eqb e 0) refl
    where
      t : zero_padded (transcript_bits p) (drop p.digest (drop at x)) ≡ true
      t = transcript-padding ∙ packed-padded (transcript_bits p) _ h.transcript

      go : (b : Bool) → eqb e 0 ≡ b → clean_slots (round_fields p e) (drop at x) ≡ true
      go true z =
          slots_zero p (seeds-whole q) e (drop at x) (eqb-true e 0 z)
          ∙ both t (ap (λ (l : Bytes). all is_zero (take (w p) l)) share-place ∙
          (ap (all is_zero) (h.none (eqb-true e 0 z)) ∙ zeros-all (w p)))
      go false z =
          slots_other p (seeds-whole q) e (drop at x) (eqb-false e 0 z) ∙ both t (share-padding ∙ packed-padded p.n _ h.share)

-- ---- all rounds

-- the salt has no padding
pub slots_none : (p : Set) (x : Bytes) → clean_slots (fields p []) x ≡ true
unfolding clean_slots rounds_fields all
slots_none p x = rw (padded-bytes salt_length x)

module _ {p : Set} (q : IsSet p) (x : Bytes) (l : length x ≡ unpacked_length p) where
  -- a form whose rounds fit passes the checks of writing
  pub fits_whole : AreValues (values_in p x) → ((k : ℕ) → k < p.t → Fit p (get_or x k 0) (shown_in p x k)) → Whole p x
  fits_whole v f =
      record {
        exact = l;
        valued = all_each is_value (values_in p x) (λ k h. lt-ltb _ 3 (v k));
        cleaned =
            let a : take p.t (values_in p x) ≡ values_in p x =
            ap (λ (n : ℕ). take n (values_in p x)) (sym (length-values_in p x l)) ∙ take-length (values_in p x) in
            ap (λ (es : List ℕ). clean_slots (fields p es) (drop p.t x)) (sym a) ∙ upto p.t (omega arith);
      }
    where
      upto : (k : ℕ) → k ≤ p.t → clean_slots (fields p (take k (values_in p x))) (drop p.t x) ≡ true
      upto zero h = slots_none p (drop p.t x)
      upto (suc k) h =
          let e : get_or (values_in p x) k 0 ≡ get_or x k 0 = get_or-take p.t x k 0 (omega arith) in
          let r : clean_slots (round_fields p (get_or (values_in p x) k 0)) (drop (slot_at p k) x) ≡ true =
          rw e (fit_clean q x k (get_or x k 0) (f k (omega arith))) in
          rw (← (add-one k)) (slots_more p (values_in p x) k (omega (arith, length-values_in p x l)) x (upto k (omega arith)) r)

-- ---- what signing writes

module _ {p : Set} (q : IsSet p) (es sa : Bytes) (us : ℕ → Shown) (le : length es ≡ p.t) (ls : length sa ≡ salt_length) (v : AreValues es)
    (f : (k : ℕ) → k < p.t → Fit p (get_or es k 0) (us k)) where
  sized : (k : ℕ) → k < p.t → Sized p (us k)
  sized k h = fit_sized (f k h)

  parts_whole : Whole p (form_of p es sa us)
  parts_whole =
      fits_whole q (form_of p es sa us) (length-form_of p es sa us le ls sized) (λ k. rw (values_of_form_of p es sa us le ls sized) (v k))
      (λ k h. rw (value_of_form_of p es sa us le ls sized k h, shown_in_form_of p es sa us le ls sized k h) (f k h))

  -- parts that fit are written
  pub parts_written : writing p (form_of p es sa us) ≡ gives (signature p (form_of p es sa us))
  unfolding writing
  parts_written = unless-fine _ _ _ (whole_passes p (form_of p es sa us) parts_whole) refl

  -- and read back
  pub parts_read : reading p (signature p (form_of p es sa us)) ≡ gives (form_of p es sa us)
  unfolding WrittenIsRead
  parts_read = written_is_read p (form_of p es sa us) (signature p (form_of p es sa us)) parts_written

  -- no check of reading holds
  pub parts_pass : first (read_checks p (signature p (form_of p es sa us))) ≡ Fine
  parts_pass = sound_passes p _ (signature_sound p (form_of p es sa us) parts_whole)
