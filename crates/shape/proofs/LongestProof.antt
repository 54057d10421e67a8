-- No signature is longer than the longest, and one is as long.
use mathlib.Core.Path.{◌≡◌, refl, sym, ap, ◌∙◌}
use mathlib.Core.Logic.{⊎_elim}
use mathlib.Core.List.{List, [], ◌∷◌}
use Prim.Native.Nat.{ℕ, suc, ◌*◌, ◌≤◌, ◌<◌}
use native.Mathlib.Omega.{arith}
use native.Mathlib.Nat.{suc-mul}
use lib.ListN.{length, get_or, replicate, length-replicate, get_or-replicate, get_or-eq_default}
use Rattle.slices.specs.Slices.{Bytes}
use Rattle.bits.proofs.NumberLaws.{below}
use Rattle.sets.specs.declared.Set.{Set}
use Rattle.sets.specs.Lengths.{w, seed_width, transcript_length, transcript_bits, salt_length, round_most, longest, unpacked_length}
use Rattle.answers.specs.Outcome.{gives}
use Rattle.shape.specs.Fields.{sizes}
use Rattle.shape.specs.Rounds.{round_fields, rounds_fields, signature_length}
use Rattle.shape.specs.Header.{values, AreValues}
use Rattle.shape.specs.Form.{values_in, Shown, Sized, form_of, signature}
use Rattle.shape.specs.Reading.{reading, writing}
use Rattle.shape.specs.Longest.{LongestIsLongest, LongestIsWritten}
use Rattle.shape.proofs.FieldLaws.{sizes-append}
use Rattle.shape.proofs.PaddingLaws.{packed-zeros}
use Rattle.shape.proofs.HeaderLaws.{length-values}
use Rattle.shape.proofs.RoundsLaws.{sizes-other, sizes-fields, signature-most}
use Rattle.shape.proofs.ReadingLaws.{given, sound, whole}
use Rattle.shape.proofs.RoundTripsProof.{length-form, length-values_in, length-signature}
use Rattle.shape.proofs.ShownLaws.{Fit, fit_sized, length-form_of, values_of_form_of}
use Rattle.shape.proofs.FitLaws.{parts_written}

-- rounds that all have an input share
all-shares : (p : Set) (es : List ℕ) → ((k : ℕ) → k < length es → ¬ (get_or es k 0 ≡ 0)) → sizes (rounds_fields p es) ≡ length es * round_most p
unfolding rounds_fields sizes
all-shares p [] h = omega arith
all-shares p (e ∷ es) h =
    omega (
      arith,
      sizes-append (rounds_fields p es) (round_fields p e),
      sizes-other p e (h 0 (omega arith)),
      all-shares p es (λ k l. h (suc k) (omega arith)),
      suc-mul (length es) (round_most p),
    )

module _ (p : Set) where
  reached_by : (es : List ℕ) → length es ≡ p.t → ((k : ℕ) → k < p.t → ¬ (get_or es k 0 ≡ 0)) → signature_length p es ≡ longest p
  reached_by es e h =
      omega (arith, sizes-fields p es, all-shares p es (λ k l. h k (omega arith)), ap (λ (n : ℕ). n * round_most p) e)

  read-most : (s x : Bytes) → reading p s ≡ gives x → (length s ≤ longest p) × (length x ≡ unpacked_length p)
  unfolding reading
  read-most s x e =
      let (f, g) = given _ _ _ e in
      let h = (sound p s f).exact in
      (omega (arith, h, signature-most p (values p s) (length-values p s)), sym (ap length g) ∙ length-form p s h)

  written-most : (x s : Bytes) → writing p x ≡ gives s → (length s ≤ longest p) × (length x ≡ unpacked_length p)
  unfolding writing
  written-most x s e =
      let (f, g) = given _ _ _ e in
      let h = (whole p x f).exact in
      (omega (arith, ap length g, length-signature p x h, signature-most p (values_in p x) (length-values_in p x h)), h)

  pub longest_is_longest : LongestIsLongest p
  longest_is_longest = record { most = signature-most p; reached = reached_by; read = read-most; written = written-most }

  -- ---- T values 1, and zeros in every other place

  abbrev ones : Bytes
  ones = replicate p.t 1

  abbrev blank : Bytes
  blank = replicate salt_length 0

  abbrev zeros : Shown
  zeros =
      record {
        commitment = replicate p.digest 0;
        transcript = replicate (transcript_length p) 0;
        seed1 = replicate (seed_width p) 0;
        seed2 = replicate (seed_width p) 0;
        share = replicate (w p) 0;
      }

  zeros_fit : (e : ℕ) → Fit p e zeros
  zeros_fit e =
      record {
        commitment = length-replicate p.digest 0;
        transcript = packed-zeros (transcript_bits p);
        seed1 = length-replicate (seed_width p) 0;
        seed2 = length-replicate (seed_width p) 0;
        share = packed-zeros p.n;
        none = λ z. refl;
      }

  one_at : (k : ℕ) → k < p.t → get_or ones k 0 ≡ 1
  one_at k h = get_or-replicate p.t k 1 0 h

  ones_values : AreValues ones
  ones_values k =
      ⊎_elim (λ (h : k < p.t). omega (arith, one_at k h))
      (λ (h : p.t ≤ k). let l : length ones ≤ k = omega (arith, length-replicate {A = ℕ} p.t 1) in omega (arith, get_or-eq_default ones 0 l))
      (below k p.t)

pub longest_is_written : LongestIsWritten
unfolding LongestIsWritten
longest_is_written p q =
    let es = ones p in
    let us : ℕ → Shown = λ k. zeros p in
    let le : length es ≡ p.t = length-replicate p.t 1 in
    let ls : length (blank p) ≡ salt_length = length-replicate {A = ℕ} salt_length 0 in
    let x = form_of p es (blank p) us in
    let sized : (k : ℕ) → k < p.t → Sized p (us k) = λ k h. fit_sized (zeros_fit p 1) in
    let v = values_of_form_of p es (blank p) us le ls sized in
    record {
      form = x;
      bytes = signature p x;
      writes = parts_written q es (blank p) us le ls (ones_values p) (λ k h. zeros_fit p _);
      long =
          length-signature p x (length-form_of p es (blank p) us le ls sized)
          ∙ (ap (signature_length p) v ∙ reached_by p es le (λ k h z. omega (arith, one_at p k h, z)));
    }
