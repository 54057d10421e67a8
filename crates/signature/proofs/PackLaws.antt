-- An unpacked form packed into an output: header, salt, and round by round.
use mathlib.Core.Path.{◌≡◌, sym, ap, ◌∙◌}
use mathlib.Core.List.{List, ◌++◌, append_assoc}
use Prim.Native.Nat.{ℕ, ◌+◌, ◌-◌, ◌≤◌, ◌<◌}
use native.Mathlib.Omega.{arith}
use native.Mathlib.Numerals.{add-one}
use lib.ListN.{length, take, drop, get_or, length-append}
use lib.Seq.{get_or-take, take-length}
use Rattle.slices.specs.Slices.{Bytes, put, over, joined}
use Rattle.slices.proofs.SliceLaws.{over-put, put-none, length-put}
use Rattle.sets.specs.declared.Set.{Set}
use Rattle.sets.specs.Sets.{IsSet}
use Rattle.sets.specs.Lengths.{salt_length, header_length, round_most, longest, unpacked_length}
use Rattle.shape.specs.Fields.{sizes, pack}
use Rattle.shape.specs.Header.{header_of}
use Rattle.shape.specs.Rounds.{round_fields, rounds_fields, signature_length, round_start}
use Rattle.shape.specs.Form.{values_in, signature, round_of, salt_in, slot_at, shown_in}
use Rattle.shape.proofs.PartLaws.{length_part, put-joined}
use Rattle.shape.proofs.HeaderLaws.{length_header}
use Rattle.shape.proofs.RoundsLaws.{signature-most, sizes_bounds, start_first, start-more, start-within, round-within}
use Rattle.shape.proofs.RoundTripsProof.{length-values_in}
use Rattle.shape.proofs.FormLaws.{slot-first, slot-more, slot-within}
use Rattle.shape.proofs.ShownLaws.{round-bytes, pack-rounds, start_of_rounds, signature_by_parts}
use Rattle.shape.proofs.SetFacts.{longest≤, unpacked≤}

-- round i of a form, as a signature has it
abbrev rounds_of : Set → Bytes → ℕ → Bytes
rounds_of p x i = round_of p (get_or x i 0) (shown_in p x i)

-- the first k rounds are written
pub record Packed (p : Set) (x out₀ : Bytes) (from at k : ℕ) (out : Bytes) : Type 0 where
  pub far : k ≤ p.t
  pub from_is : from ≡ slot_at p k
  pub at_is : at ≡ round_start p (values_in p x) k
  pub is : out ≡ put out₀ (header_length p + salt_length) (joined k (rounds_of p x))

pub packed_none : (p : Set) (x out₀ : Bytes) (from at : ℕ) → from ≡ p.t + salt_length → at ≡ header_length p + salt_length → Packed p x out₀ from at 0 out₀
unfolding joined
packed_none p x out₀ from at ef ea =
    record {
      far = omega arith;
      from_is = ef ∙ sym (slot-first p);
      at_is = ea ∙ sym (start_first p (values_in p x));
      is = sym (put-none out₀ (header_length p + salt_length));
    }

module _ {p : Set} {x out₀ : Bytes} {from at k : ℕ} {out : Bytes} (u : Packed p x out₀ from at k out)
    (h : length x ≡ unpacked_length p) (f : longest p ≤ length out₀) where
  start-most : round_start p (values_in p x) k ≤ longest p
  start-most =
      omega (
        arith,
        start-within p (values_in p x) k (omega (arith, length-values_in p x h, u.far)),
        signature-most p (values_in p x) (length-values_in p x h),
      )

  pub packed-length : length out ≡ length out₀
  packed-length =
      ap length u.is
      ∙ length-put out₀ (header_length p + salt_length) (joined k (rounds_of p x)) (omega (arith, start_of_rounds p x h k u.far, start-most))

  same_size : k < p.t → sizes (round_fields p (get_or (values_in p x) k 0)) ≡ sizes (round_fields p (get_or x k 0))
  same_size l = ap (λ (v : ℕ). sizes (round_fields p v)) (get_or-take p.t x k 0 l)

  -- round and place lie within form and output
  pub packed_inside : k < p.t → (from + sizes (round_fields p (get_or x k 0)) ≤ length x) × (at + sizes (round_fields p (get_or x k 0)) ≤ length out₀)
  packed_inside l = (
    omega (arith, u.from_is, slot-within p k l, sizes_bounds p (get_or x k 0)),
    omega (
      arith,
      u.at_is,
      same_size l,
      round-within p (values_in p x) k (omega (arith, length-values_in p x h)),
      signature-most p (values_in p x) (length-values_in p x h),
    ),
  )

  pub packed-small : IsSet p → k < p.t → (from + round_most p ≤ 133184) × (at ≤ 132856)
  packed-small q l = (omega (arith, u.from_is, slot-within p k l, unpacked≤ q), omega (arith, u.at_is, start-most, longest≤ q))

  pub packed_more : k < p.t → (n m end : ℕ) {out1 : Bytes} → n ≡ sizes (round_fields p (get_or x k 0)) → m ≡ round_most p → end ≡ from + n
      → out1 ≡ put out at (take (end - from) (drop from x)) → Packed p x out₀ (from + m) (at + n) (k + 1) out1
  packed_more l n m end {out1} en em ee e =
      let d : end - from ≡ n = omega arith in
      let r : take (end - from) (drop from x) ≡ rounds_of p x k =
      rw (d, en, u.from_is) (round-bytes p x h k l) in
      let t : at ≡ header_length p + salt_length + length (joined k (rounds_of p x)) = omega (arith, u.at_is, start_of_rounds p x h k u.far) in
      let b : length (rounds_of p x k) ≡ sizes (round_fields p (get_or x k 0)) =
      ap length (sym (round-bytes p x h k l))
      ∙ length_part x (slot_at p k) (sizes (round_fields p (get_or x k 0))) (omega (arith, slot-within p k l, sizes_bounds p (get_or x k 0))) in
      record {
        far = omega arith;
        from_is = omega (arith, u.from_is, slot-more p k);
        at_is = omega (arith, u.at_is, same_size l, start-more p (values_in p x) k (omega (arith, length-values_in p x h)));
        is =
            e ∙ (ap (λ (y : Bytes). put y at (take (end - from) (drop from x))) u.is
            ∙ (ap (put (put out₀ (header_length p + salt_length) (joined k (rounds_of p x))) at) r
            ∙ (put-joined out₀ (header_length p + salt_length) k (rounds_of p x) at t (omega (arith, (packed_inside l).1))
            ∙ ap (λ (i : ℕ). put out₀ (header_length p + salt_length) (joined i (rounds_of p x))) (sym (add-one k)))));
      }

  -- where the last round ends, and what all of them leave
  pub packed_all : p.t ≤ k
      → (at ≡ signature_length p (values_in p x)) × (out ≡ put out₀ (header_length p + salt_length) (pack (rounds_fields p (values_in p x)) (drop (p.t + salt_length) x)))
  packed_all l =
      let e : k ≡ p.t = omega (arith, u.far) in
      let g : take p.t (values_in p x) ≡ values_in p x =
      ap (λ (i : ℕ). take i (values_in p x)) (sym (length-values_in p x h)) ∙ take-length (values_in p x) in (
        u.at_is ∙ ap (signature_length p) (ap (λ (i : ℕ). take i (values_in p x)) e ∙ g),
        u.is ∙ (ap (λ (i : ℕ). put out₀ (header_length p + salt_length) (joined i (rounds_of p x))) e
            ∙ ap (put out₀ (header_length p + salt_length))
            (sym (ap (λ (es : List ℕ). pack (rounds_fields p es) (drop (p.t + salt_length) x)) (sym g) ∙ pack-rounds p x h p.t (omega arith)))),
      )

-- ---- the whole signature

-- header, salt and rounds are the signature
pub packed : (p : Set) (x out : Bytes) → length x ≡ unpacked_length p → longest p ≤ length out → (end n : ℕ) {out1 out2 out3 : Bytes}
    → end ≡ p.t + salt_length → n ≡ header_length p → out1 ≡ over (header_of p (values_in p x)) out → out2 ≡ put out1 n (take (end - p.t) (drop p.t x))
    → out3 ≡ put out2 (header_length p + salt_length) (pack (rounds_fields p (values_in p x)) (drop (p.t + salt_length) x)) → out3 ≡ over (signature p x) out
packed p x out h f end n {out1} {out2} {out3} ee en a b c =
    let hd : Bytes = header_of p (values_in p x) in
    let sa : Bytes = salt_in p x in
    let rs : Bytes = joined p.t (rounds_of p x) in
    let lh : length hd ≡ header_length p = length_header p (values_in p x) in
    let ls : length sa ≡ salt_length = length_part x p.t salt_length (omega arith) in
    let lr : header_length p + salt_length + length rs ≡ round_start p (values_in p x) p.t = start_of_rounds p x h p.t (omega arith) in
    let lm : round_start p (values_in p x) p.t ≤ longest p =
    omega (
      arith,
      start-within p (values_in p x) p.t (omega (arith, length-values_in p x h)),
      signature-most p (values_in p x) (length-values_in p x h),
    ) in
    let d : end - p.t ≡ salt_length = omega arith in
    let g : take p.t (values_in p x) ≡ values_in p x =
    ap (λ (i : ℕ). take i (values_in p x)) (sym (length-values_in p x h)) ∙ take-length (values_in p x) in
    let r : pack (rounds_fields p (values_in p x)) (drop (p.t + salt_length) x) ≡ rs =
    ap (λ (es : List ℕ). pack (rounds_fields p es) (drop (p.t + salt_length) x)) (sym g) ∙ pack-rounds p x h p.t (omega arith) in
    let b1 : out2 ≡ put (over hd out) (length hd) sa = b ∙ rw (a, d, en, lh) in
    let b2 : out2 ≡ over (hd ++ sa) out = b1 ∙ over-put hd sa out (omega arith) in
    let l : length (hd ++ sa) ≡ header_length p + salt_length = length-append hd sa ∙ omega arith in
    let c1 : out3 ≡ put (over (hd ++ sa) out) (length (hd ++ sa)) rs = c ∙ rw (b2, r, l) in
    c1 ∙ (over-put (hd ++ sa) rs out (omega arith) ∙ ap (λ (y : Bytes). over y out)
    (append_assoc hd sa rs ∙ sym (signature_by_parts p x h)))
