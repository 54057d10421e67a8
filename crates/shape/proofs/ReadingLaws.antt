-- What the checks of reading and of writing leave: how far they come, and what holds where all pass.
use mathlib.Core.Path.{◌≡◌, refl, sym, ap, ◌∙◌}
use mathlib.Core.Bool.{Bool, true, false, not, cond, ◌||◌}
use mathlib.Core.List.{List, ◌∷◌}
use Prim.Native.Nat.{ℕ, ◌+◌, ◌*◌, ◌≤◌, ◌<◌}
use native.Mathlib.Omega.{arith}
use lib.ListN.{length, drop}
use borrow.Author.Tests.{lt-ltb, le-ltb, ltb-false, eqb-true, eq-eqb, ne_eqb, not-false}
use Rattle.std.proofs.Common.{Ok, Err}
use Rattle.slices.specs.Slices.{Bytes}
use Rattle.sets.specs.declared.Set.{Set}
use Rattle.sets.specs.Lengths.{salt_length, header_length, unpacked_length}
use Rattle.answers.specs.declared.Refusal.{Refusal}
use Rattle.answers.specs.declared.Refusal.TheVariants.{Length, Header, Padding}
use Rattle.answers.specs.Answers.{Checked, Fine, Check, when, first}
use Rattle.answers.specs.Outcome.{Outcome, refused, gives, outcome_of, unless}
use Rattle.answers.proofs.OutcomeLaws.{unless-given}
use Rattle.shape.specs.Fields.{all, zero_padded, clean, clean_slots}
use Rattle.shape.specs.Header.{values, is_value}
use Rattle.shape.specs.Rounds.{fields, signature_length}
use Rattle.shape.specs.Form.{values_in}
use Rattle.shape.specs.Reading.{header_wrong, padding_wrong, read_checks, value_wrong, slot_wrong, write_checks}

-- ---- checks that all pass

pub no : {A : Type 0} → true ≡ false → A
no e = let z : ◌≡◌ {A = ℕ} 0 1 = ap (λ (b : Bool). cond b 0 1) e in absurd (omega arith)

-- where nothing is refused, the first check does not hold and the others refuse nothing
pub passed : (b : Bool) (r : Refusal) (ks : List Check) → first (when b r ∷ ks) ≡ Fine → (b ≡ false) × (first ks ≡ Fine)
unfolding first
passed true r ks e = cc
passed false r ks e = (refl, e)

gives_same : {a b : Bytes} → gives a ≡ gives b → a ≡ b
gives_same e = cc

never : {A : Type 0} {r : Refusal} {b : Bytes} → refused r ≡ gives b → A
never e = let z : ◌≡◌ {A = ℕ} 0 1 = cc in absurd (omega arith)

given_after : (c : Checked) (vs us : Bytes) → outcome_of c vs ≡ gives us → (c ≡ Fine) × (vs ≡ us)
given_after (Ok done) vs us e = (refl, gives_same e)
given_after (Err r) vs us e = never e

-- bytes are given where nothing is refused
pub given : (ks : List Check) (vs us : Bytes) → unless ks vs ≡ gives us → (first ks ≡ Fine) × (vs ≡ us)
unfolding unless
given ks vs us e = given_after (first ks) vs us e

pub one_outcome : (o : Outcome) (vs us : Bytes) → o ≡ gives vs → o ≡ gives us → vs ≡ us
one_outcome o vs us e g = cc

pub unless-fine : (ks : List Check) (vs us : Bytes) → first ks ≡ Fine → vs ≡ us → unless ks vs ≡ gives us
unless-fine ks vs us e g = unless-given ks vs e ∙ ap gives g

or_left : (a b : Bool) → (a || b) ≡ false → a ≡ false
or_left true b e = no e
or_left false b e = refl

or_right : (a b : Bool) → (a || b) ≡ false → b ≡ false
or_right true b e = no e
or_right false b e = e

-- ---- reading

-- what passes all checks of reading
pub record Sound (p : Set) (s : Bytes) : Type 0 where
  pub long : header_length p + salt_length ≤ length s
  pub valued : all is_value (values p s) ≡ true
  pub header_padded : zero_padded (2 * p.t) s ≡ true
  pub exact : length s ≡ signature_length p (values p s)
  pub cleaned : clean (fields p (values p s)) (drop (header_length p) s) ≡ true

pub sound : (p : Set) (s : Bytes) → first (read_checks p s) ≡ Fine → Sound p s
unfolding read_checks header_wrong padding_wrong
sound p s e0 =
    let (a, e1) = passed _ _ _ e0 in
    let (b, e2) = passed _ _ _ e1 in
    let (c, e3) = passed _ _ _ e2 in
    let (d, _) = passed _ _ _ e3 in
    record {
      long = ltb-false _ _ a;
      valued = not-false _ (or_left (not (all is_value (values p s))) (not (zero_padded (2 * p.t) s)) b);
      header_padded = not-false _ (or_right (not (all is_value (values p s))) (not (zero_padded (2 * p.t) s)) b);
      exact = eqb-true _ _ (not-false _ c);
      cleaned = not-false _ d;
    }

pub sound_passes : (p : Set) (s : Bytes) → Sound p s → first (read_checks p s) ≡ Fine
unfolding read_checks header_wrong padding_wrong first
sound_passes p s h = rw (le-ltb _ _ h.long, h.valued, h.header_padded, eq-eqb _ _ h.exact, h.cleaned)

-- how far the checks come
module _ (p : Set) (s : Bytes) where
  pub read_short : length s < header_length p + salt_length → first (read_checks p s) ≡ Err Length
  unfolding read_checks first
  read_short a = rw (lt-ltb _ _ a)

  module _ (a : header_length p + salt_length ≤ length s) where
    pub read_header : header_wrong p s ≡ true → first (read_checks p s) ≡ Err Header
    unfolding read_checks first
    read_header b = rw (le-ltb _ _ a, b)

    pub read_length : header_wrong p s ≡ false → (length s ≡ signature_length p (values p s) → ⊥) → first (read_checks p s) ≡ Err Length
    unfolding read_checks first
    read_length b c = rw (le-ltb _ _ a, b, ne_eqb _ _ c)

    pub read-padding : header_wrong p s ≡ false → length s ≡ signature_length p (values p s) → padding_wrong p s ≡ true
        → first (read_checks p s) ≡ Err Padding
    unfolding read_checks first
    read-padding b c d = rw (le-ltb _ _ a, b, eq-eqb _ _ c, d)

    pub read-fine : header_wrong p s ≡ false → length s ≡ signature_length p (values p s) → padding_wrong p s ≡ false
        → first (read_checks p s) ≡ Fine
    unfolding read_checks first
    read-fine b c d = rw (le-ltb _ _ a, b, eq-eqb _ _ c, d)

-- ---- writing

-- what passes all checks of writing
pub record Whole (p : Set) (x : Bytes) : Type 0 where
  pub exact : length x ≡ unpacked_length p
  pub valued : all is_value (values_in p x) ≡ true
  pub cleaned : clean_slots (fields p (values_in p x)) (drop p.t x) ≡ true

pub whole : (p : Set) (x : Bytes) → first (write_checks p x) ≡ Fine → Whole p x
unfolding write_checks value_wrong slot_wrong
whole p x e0 =
    let (a, e1) = passed _ _ _ e0 in
    let (b, e2) = passed _ _ _ e1 in
    let (c, _) = passed _ _ _ e2 in
    record {
      exact = eqb-true _ _ (not-false _ a);
      valued = not-false _ b;
      cleaned = not-false _ c;
    }

pub whole_passes : (p : Set) (x : Bytes) → Whole p x → first (write_checks p x) ≡ Fine
unfolding write_checks value_wrong slot_wrong first
whole_passes p x h = rw (eq-eqb _ _ h.exact, h.valued, h.cleaned)

module _ (p : Set) (x : Bytes) where
  pub write-length : (length x ≡ unpacked_length p → ⊥) → first (write_checks p x) ≡ Err Length
  unfolding write_checks first
  write-length a = rw (ne_eqb _ _ a)

  module _ (a : length x ≡ unpacked_length p) where
    pub write-value : value_wrong p x ≡ true → first (write_checks p x) ≡ Err Header
    unfolding write_checks first
    write-value b = rw (eq-eqb _ _ a, b)

    pub write-slot : value_wrong p x ≡ false → slot_wrong p x ≡ true → first (write_checks p x) ≡ Err Padding
    unfolding write_checks first
    write-slot b c = rw (eq-eqb _ _ a, b, c)

    pub write-fine : value_wrong p x ≡ false → slot_wrong p x ≡ false → first (write_checks p x) ≡ Fine
    unfolding write_checks first
    write-fine b c = rw (eq-eqb _ _ a, b, c)
