-- Reading and writing undo each other.
use mathlib.Core.Path.{◌≡◌, sym, ap}
use mathlib.Core.Logic.{⊎_elim}
use mathlib.Core.Bool.{true}
use mathlib.Core.List.{List}
use Prim.Native.Nat.{ℕ, ◌+◌, ◌*◌, ◌≤◌, ◌<◌}
use native.Mathlib.Omega.{arith}
use lib.ListN.{length, drop, get_or, length-append, length-drop, take-append-drop, get_or-eq_default}
use lib.Seq.{take_at, drop_at, length-take-le}
use borrow.Author.Tests.{ltb-true}
use Rattle.slices.specs.Slices.{Bytes}
use Rattle.bits.proofs.NumberLaws.{below}
use Rattle.sets.specs.declared.Set.{Set}
use Rattle.sets.specs.Lengths.{salt_length, header_length, round_most, unpacked_length}
use Rattle.shape.specs.Fields.{all, sizes, unpack, pack}
use Rattle.shape.specs.Header.{values, header_of, is_value, AreValues}
use Rattle.shape.specs.Rounds.{fields, signature_length}
use Rattle.shape.specs.Form.{form, values_in, signature}
use Rattle.shape.specs.Reading.{reading, writing}
use Rattle.shape.specs.RoundTrips.{AreBytes, ReadIsWritten, WrittenIsRead, OneString, OneForm}
use Rattle.shape.proofs.PaddingLaws.{all_at}
use Rattle.shape.proofs.FieldLaws.{slots, length-unpack, length-pack, pack-unpack, unpack-pack, clean-pack, clean-unpack}
use Rattle.shape.proofs.HeaderLaws.{length-values, length_header, header_of_values, values_of_header, padded_header}
use Rattle.shape.proofs.RoundsLaws.{slots_fields, sizes-fields}
use Rattle.shape.proofs.ReadingLaws.{given, one_outcome, unless-fine, Sound, sound, sound_passes, Whole, whole, whole_passes}

-- tested values are values
pub are_values : (vs : List ℕ) → all is_value vs ≡ true → AreValues vs
are_values vs e k =
    ⊎_elim (λ (h : k < length vs). ltb-true _ 3 (all_at is_value vs e k h))
    (λ (h : length vs ≤ k). rw (get_or-eq_default vs 0 h) (omega arith))
    (below k (length vs))

-- ---- a signature and its form

module _ (p : Set) (s : Bytes) (e : length s ≡ signature_length p (values p s)) where
  -- header and salt are there
  pub exact-long : header_length p + salt_length ≤ length s
  exact-long = omega (arith, sizes-fields p (values p s))

  -- what stands behind the header
  pub length-behind : length (drop (header_length p) s) ≡ sizes (fields p (values p s))
  length-behind = rw length-drop (omega arith)

  pub values_of_form : values_in p (form p s) ≡ values p s
  unfolding form
  values_of_form = take_at (values p s) _ p.t (length-values p s)

  pub behind-values : drop p.t (form p s) ≡ unpack (fields p (values p s)) (drop (header_length p) s)
  unfolding form
  behind-values = drop_at (values p s) _ p.t (length-values p s)

  pub length-form : length (form p s) ≡ unpacked_length p
  unfolding form
  length-form =
      omega (
        arith,
        length-append (values p s) (unpack (fields p (values p s)) (drop (header_length p) s)),
        length-values p s,
        length-unpack (fields p (values p s)) (drop (header_length p) s) (omega (arith, length-behind)),
        slots_fields p (values p s),
        ap (λ (n : ℕ). n * round_most p) (length-values p s),
      )

module _ (p : Set) (s : Bytes) (h : Sound p s) where
  pub form-whole : Whole p (form p s)
  form-whole =
      record {
        exact = length-form p s h.exact;
        valued = rw (values_of_form p s h.exact) h.valued;
        cleaned =
            rw (values_of_form p s h.exact, behind-values p s h.exact)
            (clean-unpack (fields p (values p s)) (drop (header_length p) s) (omega (arith, length-behind p s h.exact)) h.cleaned);
      }

  pub signature_of_form : AreBytes s → signature p (form p s) ≡ s
  unfolding signature
  signature_of_form small =
      rw (
        values_of_form p s h.exact,
        behind-values p s h.exact,
        header_of_values p s small (omega (arith, h.long)) h.header_padded,
        pack-unpack (fields p (values p s)) (drop (header_length p) s) (sym (length-behind p s h.exact)),
      )
      (take-append-drop (header_length p) s)

-- ---- a form and its signature

module _ (p : Set) (x : Bytes) (h : length x ≡ unpacked_length p) where
  pub length-values_in : length (values_in p x) ≡ p.t
  length-values_in = length-take-le p.t x (omega arith)

  pub slots_of_form : slots (fields p (values_in p x)) ≡ length (drop p.t x)
  slots_of_form =
      omega (arith, slots_fields p (values_in p x), ap (λ (n : ℕ). n * round_most p) length-values_in, length-drop p.t x)

  pub length-signature : length (signature p x) ≡ signature_length p (values_in p x)
  unfolding signature
  length-signature =
      omega (
        arith,
        length-append (header_of p (values_in p x)) (pack (fields p (values_in p x)) (drop p.t x)),
        length_header p (values_in p x),
        length-pack (fields p (values_in p x)) (drop p.t x) (omega (arith, slots_of_form)),
      )

  behind_header : drop (header_length p) (signature p x) ≡ pack (fields p (values_in p x)) (drop p.t x)
  unfolding signature
  behind_header = drop_at (header_of p (values_in p x)) _ (header_length p) (length_header p (values_in p x))

module _ (p : Set) (x : Bytes) (h : Whole p x) where
  pub values_of_signature : values p (signature p x) ≡ values_in p x
  unfolding signature
  values_of_signature =
      values_of_header p (values_in p x) _ (length-values_in p x h.exact) (λ k. small k (are_values (values_in p x) h.valued k))
    where
      small : (k : ℕ) → get_or (values_in p x) k 0 < 3 → get_or (values_in p x) k 0 < 4
      small k l = omega arith

  pub signature_sound : Sound p (signature p x)
  signature_sound =
      record {
        long = omega (arith, length-signature p x h.exact, sizes-fields p (values_in p x));
        valued = rw values_of_signature h.valued;
        header_padded = unfold signature in padded_header p (values_in p x) (pack (fields p (values_in p x)) (drop p.t x));
        exact = rw values_of_signature (length-signature p x h.exact);
        cleaned =
            rw (values_of_signature, behind_header p x h.exact)
            (clean-pack (fields p (values_in p x)) (drop p.t x) (omega (arith, slots_of_form p x h.exact)) h.cleaned);
      }

  pub form_of_signature : form p (signature p x) ≡ x
  unfolding form
  form_of_signature =
      rw (
        values_of_signature,
        behind_header p x h.exact,
        unpack-pack (fields p (values_in p x)) (drop p.t x) (slots_of_form p x h.exact) h.cleaned,
      )
      (take-append-drop p.t x)

-- ---- the statements

pub read_is_written : ReadIsWritten
unfolding ReadIsWritten reading writing
read_is_written p s x small e =
    let (f, g) = given _ _ _ e in
    let h = sound p s f in
    rw (← g) (unless-fine _ _ s (whole_passes p (form p s) (form-whole p s h)) (signature_of_form p s h small))

pub written_is_read : WrittenIsRead
unfolding WrittenIsRead reading writing
written_is_read p x s e =
    let (f, g) = given _ _ _ e in
    let h = whole p x f in
    rw (← g) (unless-fine _ _ x (sound_passes p (signature p x) (signature_sound p x h)) (form_of_signature p x h))

pub one-string : OneString
unfolding OneString ReadIsWritten
one-string p r s x hr hs e g = one_outcome (writing p x) r s (read_is_written p r x hr e) (read_is_written p s x hs g)

pub one_form : OneForm
unfolding OneForm WrittenIsRead
one_form p x y s e g = one_outcome (reading p s) x y (written_is_read p x s e) (written_is_read p y s g)
