-- A signature unpacked into an output: values, salt, and slot by slot.
use mathlib.Core.Path.{◌≡◌, sym, ap, ◌∙◌}
use mathlib.Core.List.{List, ◌++◌, append_assoc}
use Prim.Native.Nat.{ℕ, ◌+◌, ◌*◌, ◌-◌, ◌≤◌, ◌<◌}
use native.Mathlib.Omega.{arith}
use native.Mathlib.Numerals.{add-one}
use native.Mathlib.Nat.{mul-le-mul_right}
use lib.ListN.{length, take, drop, get_or, replicate, length-append, length-drop, length-replicate}
use lib.Seq.{length-take-le, take-length}
use Rattle.slices.specs.Slices.{Bytes, part, put, over, cleared, joined}
use Rattle.slices.proofs.SliceLaws.{over-put, put-none, put-put, put-part, length-put}
use Rattle.sets.specs.declared.Set.{Set}
use Rattle.sets.specs.Sets.{IsSet}
use Rattle.sets.specs.Lengths.{w, salt_length, header_length, round_least, round_most, unpacked_length}
use Rattle.shape.specs.Fields.{sizes, unpack}
use Rattle.shape.specs.Header.{value_at, values}
use Rattle.shape.specs.Rounds.{round_fields, rounds_fields, signature_length}
use Rattle.shape.specs.Form.{form, slot_at}
use Rattle.shape.proofs.PartLaws.{length_part, length_of_joined, put-joined}
use Rattle.shape.proofs.HeaderLaws.{length-values, get_d_values}
use Rattle.shape.proofs.RoundsLaws.{sizes_zero, sizes-other}
use Rattle.shape.proofs.RoundLaws.{unpack_zero, unpack-other}
use Rattle.shape.proofs.RoundTripsProof.{exact-long}
use Rattle.shape.proofs.FormLaws.{slot_from, length_slot_from, unpack-rounds, form_by_slots, slot-first, slot-more, slot-within}
use Rattle.shape.proofs.SetFacts.{unpacked≤}
use Rattle.parts.proofs.WalkLaws.{Reached, reached-first, reached-more, reached-within}

-- ---- one slot

module _ (p : Set) (e at to n end : ℕ) (s out : Bytes) (en : n ≡ sizes (round_fields p e)) (ee : end ≡ at + n) {out1 : Bytes}
    (h : out1 ≡ put out to (take (end - at) (drop at s))) where
  placed : out1 ≡ put out to (take n (drop at s))
  placed = let d : end - at ≡ n = omega arith in h ∙ ap (λ (k : ℕ). put out to (take k (drop at s))) d

  pub slot-other : (e ≡ 0 → ⊥) → out1 ≡ put out to (unpack (round_fields p e) (drop at s))
  slot-other z =
      placed ∙ ap (put out to) (ap (λ (k : ℕ). take k (drop at s)) (en ∙ sizes-other p e z) ∙ sym (unpack-other p e z (drop at s)))

  -- what follows the round's bytes is cleared
  pub slot_zero : e ≡ 0 → at + n ≤ length s → to + round_most p ≤ length out → (k : ℕ) → k ≡ w p → {ys : Bytes}
      → ys ≡ cleared k (take (length out1 - (to + n)) (drop (to + n) out1))
      → take (to + n) out1 ++ (ys ++ drop (length out1 - (to + n)) (drop (to + n) out1)) ≡ put out to (unpack (round_fields p e) (drop at s))
  unfolding cleared
  slot_zero z l f k ek {ys} g =
      let q : n ≡ round_least p = en ∙ sizes_zero p e z in
      let t : length (take n (drop at s)) ≡ n = length-take-le n (drop at s) (rw length-drop (omega arith)) in
      let c : to + n ≡ to + length (take n (drop at s)) = omega arith in
      let r : length (replicate {A = ℕ} k 0) ≡ k = length-replicate k 0 in
      put-part out1 (to + n) (replicate k 0) ys g
      ∙ (ap (λ (x : Bytes). put x (to + n) (replicate k 0)) placed
      ∙ (ap (λ (i : ℕ). put (put out to (take n (drop at s))) i (replicate k 0)) c
      ∙ (put-put out to (take n (drop at s)) (replicate k 0) (omega arith)
      ∙ ap (put out to) (rw (q, ek) (sym (unpack_zero p e z (drop at s)))))))

-- ---- slot by slot

pub record Unpacked (p : Set) (s out₀ : Bytes) (at to k : ℕ) (out : Bytes) : Type 0 where
  pub reached : Reached p s at k
  pub to_is : to ≡ slot_at p k
  pub is : out ≡ put out₀ (p.t + salt_length) (joined k (slot_from p s))

pub unpacked_none : (p : Set) (s out₀ : Bytes) (at to : ℕ) → at ≡ header_length p + salt_length → to ≡ p.t + salt_length → Unpacked p s out₀ at to 0 out₀
unfolding joined
unpacked_none p s out₀ at to ea et =
    record { reached = reached-first p s at ea; to_is = et ∙ sym (slot-first p); is = sym (put-none out₀ (p.t + salt_length)) }

module _ {p : Set} {s out₀ : Bytes} {at to k : ℕ} {out : Bytes} (u : Unpacked p s out₀ at to k out)
    (x : length s ≡ signature_length p (values p s)) (f : unpacked_length p ≤ length out₀) where
  slots_long : length (joined k (slot_from p s)) ≡ k * round_most p
  slots_long = length_of_joined (round_most p) (slot_from p s) k (λ i h. length_slot_from p s x i (omega (arith, u.reached.far)))

  pub unpacked_length_lem : length out ≡ length out₀
  unpacked_length_lem =
      let l : k * round_most p ≤ p.t * round_most p = mul-le-mul_right (round_most p) u.reached.far in
      ap length u.is ∙ length-put out₀ (p.t + salt_length) (joined k (slot_from p s)) (omega (arith, slots_long))

  -- round and slot lie within signature and output
  pub unpacked_inside : k < p.t → (v : ℕ) → v ≡ value_at s k → (at + sizes (round_fields p v) ≤ length s) × (to + round_most p ≤ length out)
  unpacked_inside h v e =
      let d : sizes (round_fields p v) ≡ sizes (round_fields p (get_or (values p s) k 0)) =
      ap (λ (i : ℕ). sizes (round_fields p i)) (e ∙ sym (get_d_values p s k h)) in
      (omega (arith, reached-within u.reached h x), omega (arith, u.to_is, slot-within p k h, unpacked_length_lem))

  pub unpacked_most : IsSet p → k < p.t → to + round_most p ≤ 133184
  unpacked_most q h = omega (arith, u.to_is, slot-within p k h, unpacked≤ q)

  pub unpacked_more : k < p.t → (v n m : ℕ) {out1 : Bytes} → v ≡ value_at s k → n ≡ sizes (round_fields p v) → m ≡ round_most p
      → out1 ≡ put out to (unpack (round_fields p v) (drop at s)) → Unpacked p s out₀ (at + n) (to + m) (k + 1) out1
  unfolding slot_from
  unpacked_more h v n m {out1} ev en em e =
      let d : v ≡ get_or (values p s) k 0 = ev ∙ sym (get_d_values p s k h) in
      let r : unpack (round_fields p v) (drop at s) ≡ slot_from p s k =
      ap (λ (i : ℕ). unpack (round_fields p i) (drop at s)) d ∙ ap (λ (i : ℕ). unpack (round_fields p (get_or (values p s) k 0)) (drop i s))
      u.reached.is in
      let t : to ≡ p.t + salt_length + length (joined k (slot_from p s)) = omega (arith, u.to_is, slots_long) in
      let l : to + length (slot_from p s k) ≤ length out₀ = omega (arith, u.to_is, slot-within p k h, length_slot_from p s x k h) in
      record {
        reached = reached-more u.reached h v n ev en;
        to_is = omega (arith, u.to_is, slot-more p k);
        is =
            e ∙ (ap (λ (y : Bytes). put y to (unpack (round_fields p v) (drop at s))) u.is
            ∙ (ap (put (put out₀ (p.t + salt_length) (joined k (slot_from p s))) to) r
            ∙ (put-joined out₀ (p.t + salt_length) k (slot_from p s) to t l ∙ ap (λ (i : ℕ). put out₀ (p.t + salt_length) (joined i (slot_from p s)))
            (sym (add-one k)))));
      }

  pub unpacked_all : p.t ≤ k → out ≡ put out₀ (p.t + salt_length) (unpack (rounds_fields p (values p s)) (drop (header_length p + salt_length) s))
  unpacked_all h =
      let e : k ≡ p.t = omega (arith, u.reached.far) in
      let g : take p.t (values p s) ≡ values p s =
      ap (λ (i : ℕ). take i (values p s)) (sym (length-values p s)) ∙ take-length (values p s) in
      u.is ∙ (ap (λ (i : ℕ). put out₀ (p.t + salt_length) (joined i (slot_from p s))) e
      ∙ ap (put out₀ (p.t + salt_length))
      (sym (ap (λ (es : List ℕ). unpack (rounds_fields p es) (drop (header_length p + salt_length) s)) (sym g) ∙ unpack-rounds p s x p.t (omega arith))))

-- ---- the whole form

-- values, salt and slots are the form
pub unpacked : (p : Set) (s out : Bytes) → length s ≡ signature_length p (values p s) → unpacked_length p ≤ length out
    → (from end : ℕ) {out1 out2 out3 : Bytes}
    → from ≡ header_length p → end ≡ from + salt_length → out1 ≡ over (values p s) out → out2 ≡ put out1 p.t (take (end - from) (drop from s))
    → out3 ≡ put out2 (p.t + salt_length) (unpack (rounds_fields p (values p s)) (drop (header_length p + salt_length) s)) → out3 ≡ over (form p s) out
unpacked p s out x f from end {out1} {out2} {out3} ef ee a b c =
    let sa : Bytes = part s (header_length p) salt_length in
    let rs : Bytes = joined p.t (slot_from p s) in
    let ls : length sa ≡ salt_length = length_part s (header_length p) salt_length (omega (arith, exact-long p s x)) in
    let lv : length (values p s) ≡ p.t = length-values p s in
    let lr : length rs ≡ p.t * round_most p = length_of_joined (round_most p) (slot_from p s) p.t (length_slot_from p s x) in
    let d : end - from ≡ salt_length = omega arith in
    let g : take p.t (values p s) ≡ values p s = ap (λ (i : ℕ). take i (values p s)) (sym lv) ∙ take-length (values p s) in
    let r : unpack (rounds_fields p (values p s)) (drop (header_length p + salt_length) s) ≡ rs =
    ap (λ (es : List ℕ). unpack (rounds_fields p es) (drop (header_length p + salt_length) s)) (sym g) ∙ unpack-rounds p s x p.t (omega arith) in
    let b1 : out2 ≡ put (over (values p s) out) (length (values p s)) sa =
    b ∙ (rw (a, d, ef, lv)) in
    let b2 : out2 ≡ over (values p s ++ sa) out = b1 ∙ over-put (values p s) sa out (omega arith) in
    let l : length (values p s ++ sa) ≡ p.t + salt_length = length-append (values p s) sa ∙ omega arith in
    let c1 : out3 ≡ put (over (values p s ++ sa) out) (length (values p s ++ sa)) rs = c ∙ rw (b2, r, l) in
    c1 ∙ (over-put (values p s ++ sa) rs out (omega arith)
    ∙ ap (λ (y : Bytes). over y out) (append_assoc (values p s) sa rs ∙ sym (form_by_slots p s x)))
