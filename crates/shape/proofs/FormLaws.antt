-- Laws of the unpacked form, round by round: what a signature's form shows, and a signature from what a form shows.
use mathlib.Core.Path.{◌≡◌, refl, sym, ap, ap₂, ◌∙◌}
use mathlib.Core.Bool.{true, false, ◌&&◌, and-false}
use mathlib.Core.List.{List, ◌++◌}
use Prim.Native.Nat.{ℕ, zero, suc, ◌+◌, ◌*◌, ◌≤◌, ◌<◌}
use native.Mathlib.Omega.{arith}
use native.Mathlib.Numerals.{add-one}
use native.Mathlib.Nat.{suc-mul, zero-mul, mul-le-mul_right}
use lib.ListN.{length, take, drop, get_or, length-drop}
use lib.Seq.{drop-drop, length-take-le, take-length}
use Rattle.slices.specs.Slices.{Bytes, part, joined}
use Rattle.sets.specs.declared.Set.{Set}
use Rattle.sets.specs.Lengths.{w, seed_width, transcript_length, salt_length, header_length, round_least, round_most, unpacked_length}
use Rattle.shape.specs.Fields.{sizes, unpack, clean, clean_slots}
use Rattle.shape.specs.Header.{values}
use Rattle.shape.specs.Rounds.{round_fields, rounds_fields, fields, signature_length, round_start}
use Rattle.shape.specs.Form.{form, Shown, slot_of, slot_at, shown_in}
use Rattle.shape.proofs.PaddingLaws.{width-whole}
use Rattle.shape.proofs.FieldLaws.{slots, length-unpack, unpack-append, clean-append, clean_slots-append}
use Rattle.shape.proofs.PartLaws.{part-part, part_past, five_parts, part_of_joined}
use Rattle.shape.proofs.HeaderLaws.{length-values}
use Rattle.shape.proofs.RoundsLaws.{slots_round, slots_fields, sizes-fields, rounds-more, fields-more, fields_around, round-within}

-- slots up to a round
pub slots_before : (p : Set) (es : List ℕ) (k : ℕ) → k ≤ length es → slots (fields p (take k es)) ≡ salt_length + k * round_most p
slots_before p es k h = slots_fields p (take k es) ∙ ap (λ (n : ℕ). salt_length + n * round_most p) (length-take-le k es h)

-- a slot lies within the form
pub slot-within : (p : Set) (k : ℕ) → k < p.t → slot_at p k + round_most p ≤ unpacked_length p
slot-within p k h =
    let l : suc k * round_most p ≤ p.t * round_most p = mul-le-mul_right (round_most p) h in
    omega (arith, suc-mul k (round_most p))

pub slot-more : (p : Set) (k : ℕ) → slot_at p (k + 1) ≡ slot_at p k + round_most p
slot-more p k =
    let e : (k + 1) * round_most p ≡ k * round_most p + round_most p = rw add-one (suc-mul k (round_most p)) in
    omega arith

pub slot-first : (p : Set) → slot_at p 0 ≡ p.t + salt_length
slot-first p = omega (arith, zero-mul (round_most p))

-- ---- tests round by round

module _ (p : Set) (es : List ℕ) (k : ℕ) (h : k < length es) where
  -- the padding in a signature
  module _ (s : Bytes) where
    clean_step : clean (fields p (take k es) ++ round_fields p (get_or es k 0)) (drop (header_length p) s)
        ≡ (clean (fields p (take k es)) (drop (header_length p) s) && clean (round_fields p (get_or es k 0)) (drop (round_start p es k) s))
    clean_step = clean-append (round_fields p (get_or es k 0)) (fields p (take k es)) (drop (header_length p) s) ∙ rw drop-drop

    pub clean-more : clean (fields p (take k es)) (drop (header_length p) s) ≡ true → clean (round_fields p (get_or es k 0)) (drop (round_start p es k) s) ≡ true
        → clean (fields p (take (k + 1) es)) (drop (header_length p) s) ≡ true
    clean-more a b = rw (fields-more p es k h, clean_step, a, b)

    pub clean_fails : clean (round_fields p (get_or es k 0)) (drop (round_start p es k) s) ≡ false → clean (fields p es) (drop (header_length p) s) ≡ false
    clean_fails b = rw (fields_around p es k h, clean-append, clean_step, b, and-false)

  -- the slots of an unpacked form
  module _ (x : Bytes) where
    at_slot : p.t + slots (fields p (take k es)) ≡ slot_at p k
    at_slot = omega (arith, slots_before p es k (omega arith))

    slots_step : clean_slots (fields p (take k es) ++ round_fields p (get_or es k 0)) (drop p.t x)
        ≡ (clean_slots (fields p (take k es)) (drop p.t x) && clean_slots (round_fields p (get_or es k 0)) (drop (slot_at p k) x))
    slots_step = clean_slots-append (round_fields p (get_or es k 0)) (fields p (take k es)) (drop p.t x) ∙ rw (drop-drop, at_slot)

    pub slots_more : clean_slots (fields p (take k es)) (drop p.t x) ≡ true
        → clean_slots (round_fields p (get_or es k 0)) (drop (slot_at p k) x) ≡ true
        → clean_slots (fields p (take (k + 1) es)) (drop p.t x) ≡ true
    slots_more a b = rw (fields-more p es k h, slots_step, a, b)

    pub slots_fails : clean_slots (round_fields p (get_or es k 0)) (drop (slot_at p k) x) ≡ false → clean_slots (fields p es) (drop p.t x) ≡ false
    slots_fails b = rw (fields_around p es k h, clean_slots-append, slots_step, b, and-false)

-- ---- a signature's form

-- round k of a signature, as a slot
unfoldable pub slot_from : Set → Bytes → ℕ → Bytes
slot_from p s k = unpack (round_fields p (get_or (values p s) k 0)) (drop (round_start p (values p s) k) s)

module _ (p : Set) (s : Bytes) (e : length s ≡ signature_length p (values p s)) where
  within : (k : ℕ) → k < p.t → round_start p (values p s) k + sizes (round_fields p (get_or (values p s) k 0)) ≤ length s
  within k h = omega (arith, round-within p (values p s) k (omega (arith, length-values p s)))

  pub length_slot_from : (k : ℕ) → k < p.t → length (slot_from p s k) ≡ round_most p
  unfolding slot_from
  length_slot_from k h =
      length-unpack (round_fields p (get_or (values p s) k 0)) (drop (round_start p (values p s) k) s) (rw length-drop (omega (arith, within k h)))
      ∙ slots_round p (get_or (values p s) k 0)

  -- the form is values, salt and slots
  pub unpack-rounds : (k : ℕ) → k ≤ p.t → unpack (rounds_fields p (take k (values p s))) (drop (header_length p + salt_length) s) ≡ joined k (slot_from p s)
  unfolding joined rounds_fields unpack slot_from
  unpack-rounds zero h = refl
  unpack-rounds (suc k) h =
      let l : k < length (values p s) = omega (arith, length-values p s) in
      let a : header_length p + salt_length + sizes (rounds_fields p (take k (values p s))) ≡ round_start p (values p s) k =
      omega (arith, sizes-fields p (take k (values p s))) in
      rw (← (add-one k), rounds-more p (values p s) k l)
      (unpack-append (round_fields p (get_or (values p s) k 0)) (rounds_fields p (take k (values p s))) (drop (header_length p + salt_length) s)
      ∙ ap₂ ◌++◌ (unpack-rounds k (omega arith)) (rw (drop-drop, a)))

  pub form_by_slots : form p s ≡ values p s ++ (part s (header_length p) salt_length ++ joined p.t (slot_from p s))
  unfolding form unpack
  form_by_slots =
      let a : take p.t (values p s) ≡ values p s =
      ap (λ (n : ℕ). take n (values p s)) (sym (length-values p s)) ∙ take-length (values p s) in
      let r = unpack-rounds p.t (omega arith) in
      rw (width-whole salt_length, drop-drop)
      (ap (λ (l : Bytes). values p s ++ (part s (header_length p) salt_length ++ l))
      (ap (λ (l : List ℕ). unpack (rounds_fields p l) (drop (header_length p + salt_length) s)) (sym a) ∙ r))

-- ---- what a form shows

-- what a slot shows
unfoldable pub cut : Set → Bytes → Shown
cut p b =
    record {
      commitment = part b 0 p.digest;
      transcript = part b p.digest (transcript_length p);
      seed1 = part b (p.digest + transcript_length p) (seed_width p);
      seed2 = part b (p.digest + transcript_length p + seed_width p) (seed_width p);
      share = part b (round_least p) (w p);
    }

-- what is shown of round k is what its slot shows
pub shown_by_slot : (p : Set) (x : Bytes) (k : ℕ) → shown_in p x k ≡ cut p (part x (slot_at p k) (round_most p))
unfolding shown_in cut
shown_by_slot p x k =
    λ i. record {
      commitment = sym (at 0 p.digest (slot_at p k) (omega arith) (omega arith)) i;
      transcript = sym (at p.digest (transcript_length p) (slot_at p k + p.digest) (omega arith) (omega arith)) i;
      seed1 = sym (at (p.digest + transcript_length p) (seed_width p) (slot_at p k + p.digest + transcript_length p) (omega arith) (omega arith)) i;
      seed2 =
          sym (at (p.digest + transcript_length p + seed_width p) (seed_width p) (slot_at p k + p.digest + transcript_length p + seed_width p)
          (omega arith) (omega arith)) i;
      share = sym (at (round_least p) (w p) (slot_at p k + p.digest + transcript_length p + seed_width p + seed_width p) (omega arith)
          (omega arith)) i;
    }
  where
    at : (from n there : ℕ) → from + n ≤ round_most p → slot_at p k + from ≡ there
        → part (part x (slot_at p k) (round_most p)) from n ≡ part x there n
    at from n there h e = part-part x (slot_at p k) (round_most p) from n h ∙ ap (λ (a : ℕ). part x a n) e

-- a slot is put together from what it shows
pub slot_of_cut : (p : Set) (b : Bytes) → length b ≡ round_most p → slot_of (cut p b) ≡ b
unfolding slot_of cut
slot_of_cut p b l = five_parts b p.digest (transcript_length p) (seed_width p) (round_least p) (w p) (omega arith) (omega arith)

-- round k of values, a salt and slots
pub slot_among : (p : Set) (es sa : Bytes) (f : ℕ → Bytes) → length es ≡ p.t → length sa ≡ salt_length
    → ((i : ℕ) → i < p.t → length (f i) ≡ round_most p)
    → (k : ℕ) → k < p.t → part (es ++ (sa ++ joined p.t f)) (slot_at p k) (round_most p) ≡ f k
slot_among p es sa f le ls lf k h =
    let e : slot_at p k ≡ p.t + (salt_length + k * round_most p) = omega arith in
    ap (λ (a : ℕ). part (es ++ (sa ++ joined p.t f)) a (round_most p)) e
    ∙ (part_past es (sa ++ joined p.t f) p.t (salt_length + k * round_most p) (round_most p) le
    ∙ (part_past sa (joined p.t f) salt_length (k * round_most p) (round_most p) ls ∙ part_of_joined (round_most p) f p.t lf k h))
