-- The tests of an unpacked form, place by place and round by round.
use mathlib.Core.Path.{◌≡◌, refl, sym, ap, ◌∙◌}
use mathlib.Core.Bool.{Bool, true, false, not, ◌&&◌, ◌||◌}
use mathlib.Core.List.{List, [], ◌∷◌}
use Prim.Native.Nat.{ℕ, zero, suc, ◌+◌, ◌*◌, ◌≤◌, ◌<◌}
use native.Mathlib.Omega.{arith}
use lib.Dec.{eqb}
use lib.ListN.{length, take, drop, get_or}
use lib.Seq.{drop-drop, get_or-take, take-length}
use borrow.Author.Tests.{eqb-true, eqb-false}
use native.Mathlib.Nat.{zero-add}
use native.Mathlib.Numerals.{add-one}
use Rattle.std.specs.Bool.{MatchBool}
use Rattle.std.specs.List.{list_all, list_any, range_with_len, AllWithin, HoldsAt}
use Rattle.std.proofs.lemmas.List.FromFn.{length-range_with_len, get_or-range_with_len}
use Rattle.slices.specs.Slices.{Bytes, part}
use Rattle.bits.specs.Bytes.{width}
use Rattle.sets.specs.declared.Set.{Set}
use Rattle.sets.specs.Sets.{IsSet}
use Rattle.sets.specs.Lengths.{w, salt_length, round_least, round_most, unpacked_length, transcript_bits}
use Rattle.shape.specs.Fields.{all, is_zero, zero_padded, clean_slots}
use Rattle.shape.specs.Rounds.{round_fields, fields}
use Rattle.shape.specs.Form.{values_in, slot_at}
use Rattle.shape.specs.Reading.{slot_wrong}
use Rattle.shape.proofs.PaddingLaws.{padded-whole}
use Rattle.shape.proofs.RoundLaws.{slots_zero, slots_other}
use Rattle.shape.proofs.RoundTripsProof.{length-values_in}
use Rattle.shape.proofs.FormLaws.{slot-within, slots_more, slots_fails}
use Rattle.shape.proofs.FitLaws.{slots_none}
use Rattle.shape.proofs.SetFacts.{seeds-whole, shares_whole, some-gates, transcript_bits≤}

-- ---- a test of each byte

pub every : (q : ℕ → Bool) (vs : Bytes) → list_all q vs ≡ all q vs
unfolding all
every q [] = refl
every q (v ∷ vs) = ap (λ (b : Bool). q v && b) (every q vs)

not_both : (a b : Bool) → (not a || not b) ≡ not (a && b)
not_both true b = refl
not_both false b = refl

pub some_fails : (q : ℕ → Bool) (vs : Bytes) → list_any (λ v. not (q v)) vs ≡ not (all q vs)
unfolding all
some_fails q [] = refl
some_fails q (v ∷ vs) = rw (some_fails q vs) (not_both (q v) (all q vs))

-- ---- a slot

-- a transcript lies in its slot
pub transcript_inside : {p : Set} → IsSet p → (at n m : ℕ) → at + round_most p ≤ n → m ≡ transcript_bits p
    → (0 < m) × ((m ≤ 65536) × (at + p.digest + width m ≤ n))
transcript_inside q at n m h e = rw e (some-gates q, (omega (arith, transcript_bits≤ q), omega arith))

module _ {p : Set} (q : IsSet p) (e at : ℕ) (x : Bytes) (m : ℕ) (em : m ≡ transcript_bits p) where
  transcript-bits : {b : Bool} → b ≡ zero_padded m (drop (at + p.digest) x) → zero_padded (transcript_bits p) (drop p.digest (drop at x)) ≡ b
  transcript-bits g = rw (drop-drop, ← em) (sym g)

  pub slot_fails : false ≡ zero_padded m (drop (at + p.digest) x) → false ≡ clean_slots (round_fields p e) (drop at x)
  slot_fails g = sym (go (eqb e 0) refl)
    where
      go : (b : Bool) → eqb e 0 ≡ b → clean_slots (round_fields p e) (drop at x) ≡ false
      go true z = slots_zero p (seeds-whole q) e (drop at x) (eqb-true e 0 z) ∙ rw (transcript-bits g)
      go false z = slots_other p (seeds-whole q) e (drop at x) (eqb-false e 0 z) ∙ rw (transcript-bits g)

  module _ (g : true ≡ zero_padded m (drop (at + p.digest) x)) where
    pub slot-other : (e ≡ 0 → ⊥) → true ≡ clean_slots (round_fields p e) (drop at x)
    slot-other z =
        sym (slots_other p (seeds-whole q) e (drop at x) z
        ∙ rw (transcript-bits g, padded-whole p.n (shares_whole q) (drop (round_least p) (drop at x))))

    pub slot_zero : e ≡ 0 → (l n : ℕ) → l ≡ round_least p → n ≡ w p → (b : Bool) → b ≡ all is_zero (part x (at + l) n)
        → b ≡ clean_slots (round_fields p e) (drop at x)
    slot_zero z l n el en b eb =
        eb ∙ sym (slots_zero p (seeds-whole q) e (drop at x) z ∙ rw (transcript-bits g, drop-drop, ← el, ← en))

-- ---- all slots

-- whether slot k is clean, where a slot has so many bytes
abbrev pub clean_at : Set → Bytes → (most k : ℕ) → Bool
clean_at p x most k = clean_slots (round_fields p (get_or x k 0)) (drop (p.t + salt_length + k * most) x)

module _ (p : Set) (x : Bytes) (l : length x ≡ unpacked_length p) (most : ℕ) (e : most ≡ round_most p) where
  -- a slot lies in the form
  pub slot_inside : (k : ℕ) → k < p.t → p.t + salt_length + k * most + round_most p ≤ length x
  slot_inside k h = rw (e, l) (slot-within p k h)

  there : (k : ℕ) → k < p.t → {b : Bool} → clean_at p x most k ≡ b → clean_slots (round_fields p (get_or (values_in p x) k 0)) (drop (slot_at p k) x) ≡ b
  there k h g = rw (get_or-take p.t x k 0 h, ← e) g

  -- the first n slots are clean
  cleaned : (n : ℕ) → n ≤ p.t → ((k : ℕ) → k < n → clean_at p x most k ≡ true) → clean_slots (fields p (take n (values_in p x))) (drop p.t x) ≡ true
  cleaned zero h each = slots_none p (drop p.t x)
  cleaned (suc n) h each =
      ap (λ (i : ℕ). clean_slots (fields p (take i (values_in p x))) (drop p.t x)) (sym (add-one n))
      ∙ slots_more p (values_in p x) n (omega (arith, length-values_in p x l)) x (cleaned n (omega arith) (λ k g. each k (omega arith)))
      (there n (omega arith) (each n (omega arith)))

  at_place : (k : ℕ) → k < p.t → clean_at p x most (get_or (range_with_len 0 p.t) k 0) ≡ clean_at p x most k
  at_place k h = ap (clean_at p x most) (get_or-range_with_len 0 p.t k 0 h ∙ zero-add k)

  -- the answer of `any` over the slots
  pub slots_tested : (r : Bool)
      → MatchBool r
      ((k : ℕ) × (k < length (range_with_len 0 p.t)) × HoldsAt (λ k. clean_at p x most k ≡ false) (range_with_len 0 p.t) k)
      (AllWithin (λ k. clean_at p x most k ≡ true) (range_with_len 0 p.t) 0 (length (range_with_len 0 p.t)))
      → r ≡ slot_wrong p x
  unfolding slot_wrong
  slots_tested true (k, h, f) =
      let b : k < p.t = omega (arith, length-range_with_len 0 p.t) in
      ap not (sym (slots_fails p (values_in p x) k (omega (arith, length-values_in p x l)) x (there k b (sym (at_place k b) ∙ f 0))))
  slots_tested false f =
      let each = λ (k : ℕ) (b : k < p.t). sym (at_place k b) ∙ f k 0 (omega arith) (omega (arith, length-range_with_len 0 p.t)) in
      let g : take p.t (values_in p x) ≡ values_in p x =
      ap (λ (n : ℕ). take n (values_in p x)) (sym (length-values_in p x l)) ∙ take-length (values_in p x) in
      ap not (sym (ap (λ (es : List ℕ). clean_slots (fields p es) (drop p.t x)) (sym g) ∙ cleaned p.t (omega arith) each))
