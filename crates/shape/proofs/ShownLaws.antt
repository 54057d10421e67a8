-- Laws of what is shown of each round: in place in a signature, in the form of given parts, and in a signature made of them.
use mathlib.Core.Path.{◌≡◌, refl, sym, ap, ap₂, ◌∙◌}
use mathlib.Core.List.{List, ◌++◌}
use Prim.Native.Nat.{ℕ, zero, suc, ◌+◌, ◌*◌, ◌≤◌, ◌<◌}
use native.Mathlib.Omega.{arith}
use native.Mathlib.Numerals.{add-one}
use lib.ListN.{length, take, drop, get_or, replicate, length-append, length-drop, get_or-append}
use lib.Seq.{drop-drop, take_at, take-take, length-take-le, get_or-take, take-length}
use Rattle.slices.specs.Slices.{Bytes, part, joined}
use Rattle.slices.proofs.SliceLaws.{joined_cong}
use Rattle.bits.specs.Bytes.{Packed}
use Rattle.sets.specs.declared.Set.{Set}
use Rattle.sets.specs.Lengths.{w, seed_width, transcript_bits, transcript_length, salt_length, header_length, round_least, round_most, unpacked_length}
use Rattle.shape.specs.Fields.{sizes, pack}
use Rattle.shape.specs.Header.{values, header_of}
use Rattle.shape.specs.Rounds.{round_fields, rounds_fields, signature_length, round_start}
use Rattle.shape.specs.Form.{form, values_in, signature, Shown, Sized, slot_of, round_of, form_of, salt_in, slot_at, shown_in}
use Rattle.shape.proofs.PaddingLaws.{width-whole}
use Rattle.shape.proofs.FieldLaws.{slots, pack-append}
use Rattle.shape.proofs.PartLaws.{length_part, part_past, part-behind, next_to, length_of_joined}
use Rattle.shape.proofs.HeaderLaws.{length-values}
use Rattle.shape.proofs.RoundsLaws.{slots_rounds, sizes_bounds, rounds-more, start_first, start-more, round-within}
use Rattle.shape.proofs.RoundLaws.{pack-round, part_of_slot, share_of_slot, no_share_of_slot}
use Rattle.shape.proofs.RoundTripsProof.{exact-long, length-values_in}
use Rattle.shape.proofs.FormLaws.{slot_from, length_slot_from, form_by_slots, cut, shown_by_slot, slot_of_cut, slot_among, slot-within}

-- ---- in place: what a signature shows of a round stands from the round's start on

module _ (p : Set) (s : Bytes) (e : length s ≡ signature_length p (values p s)) where
  pub salt_in_place : salt_in p (form p s) ≡ part s (header_length p) salt_length
  salt_in_place =
      let z : p.t ≡ p.t + 0 = omega arith in
      ap (λ (x : Bytes). part x p.t salt_length) (form_by_slots p s e)
      ∙ (ap (λ (n : ℕ). part (values p s ++ (part s (header_length p) salt_length ++ joined p.t (slot_from p s))) n salt_length) z
      ∙ (part_past (values p s) (part s (header_length p) salt_length ++ joined p.t (slot_from p s)) p.t 0 salt_length (length-values p s)
      ∙ take_at (part s (header_length p) salt_length) _ salt_length (length_part s (header_length p) salt_length (omega (arith, exact-long p s e)))))

  module _ (k : ℕ) (h : k < p.t) where
    abbrev at : ℕ
    at = round_start p (values p s) k

    abbrev v : ℕ
    v = get_or (values p s) k 0

    shown-from : shown_in p (form p s) k ≡ cut p (slot_from p s k)
    shown-from =
        shown_by_slot p (form p s) k
        ∙ ap (cut p)
        (ap (λ (x : Bytes). part x (slot_at p k) (round_most p)) (form_by_slots p s e)
        ∙ slot_among p (values p s) (part s (header_length p) salt_length) (slot_from p s) (length-values p s)
        (length_part s (header_length p) salt_length (omega (arith, exact-long p s e))) (length_slot_from p s e) k h)

    inside : round_least p ≤ length (drop at s)
    inside =
        rw length-drop
        (omega (arith, round-within p (values p s) k (omega (arith, length-values p s)), sizes_bounds p (get_or (values p s) k 0)))

    there : (from n place : ℕ) → from + n ≤ round_least p → at + from ≡ place → part (slot_from p s k) from n ≡ part s place n
    unfolding slot_from
    there from n place l q =
        part_of_slot p v (drop at s) from n l inside ∙ (ap (take n) (drop-drop from at s) ∙ ap (λ (i : ℕ). part s i n) q)

    pub commitment_in_place : (shown_in p (form p s) k).commitment ≡ part s at p.digest
    unfolding cut
    commitment_in_place = ap (λ (u : Shown). u.commitment) shown-from ∙ there 0 p.digest at (omega arith) (omega arith)

    pub transcript_in_place : (shown_in p (form p s) k).transcript ≡ part s (at + p.digest) (transcript_length p)
    unfolding cut
    transcript_in_place =
        ap (λ (u : Shown). u.transcript) shown-from ∙ there p.digest (transcript_length p) (at + p.digest) (omega arith) (omega arith)

    pub seed1_in_place : (shown_in p (form p s) k).seed1 ≡ part s (at + p.digest + transcript_length p) (seed_width p)
    unfolding cut
    seed1_in_place =
        ap (λ (u : Shown). u.seed1) shown-from
        ∙ there (p.digest + transcript_length p) (seed_width p) (at + p.digest + transcript_length p) (omega arith) (omega arith)

    pub seed2_in_place : (shown_in p (form p s) k).seed2 ≡ part s (at + p.digest + transcript_length p + seed_width p) (seed_width p)
    unfolding cut
    seed2_in_place =
        ap (λ (u : Shown). u.seed2) shown-from
        ∙ there (p.digest + transcript_length p + seed_width p) (seed_width p) (at + p.digest + transcript_length p + seed_width p) (omega arith)
        (omega arith)

    pub share_in_place : (v ≡ 0 → ⊥) → (shown_in p (form p s) k).share ≡ part s (at + round_least p) (w p)
    unfolding cut slot_from
    share_in_place z =
        ap (λ (u : Shown). u.share) shown-from ∙ (share_of_slot p v z (drop at s) ∙ ap (take (w p)) (drop-drop (round_least p) at s))

    -- beside value 0 zeros are shown
    pub no_share : v ≡ 0 → (shown_in p (form p s) k).share ≡ replicate (w p) 0
    unfolding cut slot_from
    no_share z = ap (λ (u : Shown). u.share) shown-from ∙ no_share_of_slot p v z (drop at s) inside

-- ---- a signature by its parts

module _ (p : Set) (x : Bytes) (h : length x ≡ unpacked_length p) where
  -- round k of it
  round-shown : (k : ℕ) → k < p.t → pack (round_fields p (get_or (values_in p x) k 0)) (drop (slot_at p k) x) ≡ round_of p (get_or x k 0) (shown_in p x k)
  unfolding round_of
  round-shown k l =
      let e : ℕ = get_or x k 0 in
      let b : Bytes = part x (slot_at p k) (round_most p) in
      let r : slot_of (shown_in p x k) ≡ b =
      ap slot_of (shown_by_slot p x k) ∙ slot_of_cut p b (length_part x (slot_at p k) (round_most p) (omega (arith, slot-within p k l))) in
      ap (λ (v : ℕ). pack (round_fields p v) (drop (slot_at p k) x)) (get_or-take p.t x k 0 l)
      ∙ (pack-round p e (drop (slot_at p k) x)
      ∙ sym (ap (pack (round_fields p e)) r ∙ (pack-round p e b ∙ take-take (sizes (round_fields p e)) (round_most p) (drop (slot_at p k) x)
      (sizes_bounds p e).1)))

  -- as its bytes stand in the form
  pub round-bytes : (k : ℕ) → k < p.t → part x (slot_at p k) (sizes (round_fields p (get_or x k 0))) ≡ round_of p (get_or x k 0) (shown_in p x k)
  round-bytes k l =
      sym (pack-round p (get_or x k 0) (drop (slot_at p k) x))
      ∙ (ap (λ (v : ℕ). pack (round_fields p v) (drop (slot_at p k) x)) (sym (get_or-take p.t x k 0 l)) ∙ round-shown k l)

  pub pack-rounds : (k : ℕ) → k ≤ p.t
      → pack (rounds_fields p (take k (values_in p x))) (drop (p.t + salt_length) x) ≡ joined k (λ i. round_of p (get_or x i 0) (shown_in p x i))
  unfolding joined rounds_fields pack
  pack-rounds zero l = refl
  pack-rounds (suc k) l =
      let q : k < length (values_in p x) = omega (arith, length-values_in p x h) in
      let a : p.t + salt_length + slots (rounds_fields p (take k (values_in p x))) ≡ slot_at p k =
      omega (
        arith,
        slots_rounds p (take k (values_in p x)),
        ap (λ (n : ℕ). n * round_most p)
            (length-take-le k (values_in p x) (omega arith)),
      ) in
      rw (← (add-one k), rounds-more p (values_in p x) k q)
      (pack-append (round_fields p (get_or (values_in p x) k 0)) (rounds_fields p (take k (values_in p x))) (drop (p.t + salt_length) x)
      ∙ ap₂ ◌++◌ (pack-rounds k (omega arith)) (rw (drop-drop, a) (round-shown k (omega arith))))

  -- where round k of the signature starts
  pub start_of_rounds : (k : ℕ) → k ≤ p.t
      → header_length p + salt_length + length (joined k (λ i. round_of p (get_or x i 0) (shown_in p x i))) ≡ round_start p (values_in p x) k
  unfolding joined
  start_of_rounds zero l = sym (start_first p (values_in p x) ∙ omega arith)
  start_of_rounds (suc k) l =
      let q : k < length (values_in p x) = omega (arith, length-values_in p x h) in
      let e : round_start p (values_in p x) (suc k) ≡ round_start p (values_in p x) k + sizes (round_fields p (get_or (values_in p x) k 0)) =
      rw (← (add-one k)) (start-more p (values_in p x) k q) in
      let v : sizes (round_fields p (get_or (values_in p x) k 0)) ≡ sizes (round_fields p (get_or x k 0)) =
      ap (λ (v : ℕ). sizes (round_fields p v)) (get_or-take p.t x k 0 (omega arith)) in
      let r : length (round_of p (get_or x k 0) (shown_in p x k)) ≡ sizes (round_fields p (get_or x k 0)) =
      ap length (sym (round-bytes k (omega arith)))
      ∙ length_part x (slot_at p k) (sizes (round_fields p (get_or x k 0)))
      (omega (arith, slot-within p k (omega arith), sizes_bounds p (get_or x k 0))) in
      omega (
        arith,
        length-append (joined k (λ i. round_of p (get_or x i 0) (shown_in p x i))) (round_of p (get_or x k 0) (shown_in p x k)),
        start_of_rounds k (omega arith),
      )

  -- header, salt, and for each round what is shown of it
  pub signature_by_parts : signature p x
      ≡ header_of p (values_in p x) ++ (salt_in p x ++ joined p.t (λ k. round_of p (get_or x k 0) (shown_in p x k)))
  unfolding signature pack
  signature_by_parts =
      let a : take p.t (values_in p x) ≡ values_in p x =
      ap (λ (n : ℕ). take n (values_in p x)) (sym (length-values_in p x h)) ∙ take-length (values_in p x) in
      let g : salt_length + 0 ≡ salt_length = omega arith in
      rw (width-whole salt_length, g, drop-drop)
      (ap (λ (l : Bytes). header_of p (values_in p x) ++ (salt_in p x ++ l))
      (ap (λ (l : List ℕ). pack (rounds_fields p l) (drop (p.t + salt_length) x)) (sym a) ∙ pack-rounds p.t (omega arith)))

-- ---- a form of given parts

-- what is shown of a round of value e has its lengths and zero padding, and zeros for the share where e is 0
pub record Fit (p : Set) (e : ℕ) (u : Shown) : Type 0 where
  pub commitment : length u.commitment ≡ p.digest
  pub transcript : Packed (transcript_bits p) u.transcript
  pub seed1 : length u.seed1 ≡ seed_width p
  pub seed2 : length u.seed2 ≡ seed_width p
  pub share : Packed p.n u.share
  pub none : e ≡ 0 → u.share ≡ replicate (w p) 0

pub fit_sized : {p : Set} {e : ℕ} {u : Shown} → Fit p e u → Sized p u
fit_sized h =
    record {
      commitment = h.commitment;
      transcript = h.transcript.wide;
      seed1 = h.seed1;
      seed2 = h.seed2;
      share = h.share.wide;
    }

module _ (p : Set) (u : Shown) (h : Sized p u) where
  pub length-slot_of : length (slot_of u) ≡ round_most p
  unfolding slot_of
  length-slot_of =
      omega (
        arith,
        length-append u.commitment (u.transcript ++ (u.seed1 ++ (u.seed2 ++ u.share))),
        length-append u.transcript (u.seed1 ++ (u.seed2 ++ u.share)),
        length-append u.seed1 (u.seed2 ++ u.share),
        length-append u.seed2 u.share,
      )

  abbrev a : Bytes
  a = u.commitment

  abbrev b : Bytes
  b = u.transcript

  abbrev c : Bytes
  c = u.seed1

  abbrev d : Bytes
  d = u.seed2

  seed1_of : part (a ++ (b ++ (c ++ (d ++ u.share)))) (p.digest + transcript_length p) (seed_width p) ≡ c
  seed1_of =
      part_past a (b ++ (c ++ (d ++ u.share))) p.digest (transcript_length p) (seed_width p) h.commitment
      ∙ next_to b c (d ++ u.share) (transcript_length p) (seed_width p) h.transcript h.seed1

  seed2_of : part (a ++ (b ++ (c ++ (d ++ u.share)))) (p.digest + transcript_length p + seed_width p) (seed_width p) ≡ d
  seed2_of =
      let e : p.digest + transcript_length p + seed_width p ≡ p.digest + (transcript_length p + seed_width p) = omega arith in
      ap (λ (k : ℕ). part (a ++ (b ++ (c ++ (d ++ u.share)))) k (seed_width p)) e
      ∙ (part_past a (b ++ (c ++ (d ++ u.share))) p.digest (transcript_length p + seed_width p) (seed_width p) h.commitment
      ∙ (part_past b (c ++ (d ++ u.share)) (transcript_length p) (seed_width p) (seed_width p) h.transcript
      ∙ next_to c d u.share (seed_width p) (seed_width p) h.seed1 h.seed2))

  share_of : part (a ++ (b ++ (c ++ (d ++ u.share)))) (round_least p) (w p) ≡ u.share
  share_of =
      let e : round_least p ≡ p.digest + (transcript_length p + (seed_width p + seed_width p)) = omega arith in
      ap (λ (k : ℕ). part (a ++ (b ++ (c ++ (d ++ u.share)))) k (w p)) e
      ∙ (part_past a (b ++ (c ++ (d ++ u.share))) p.digest (transcript_length p + (seed_width p + seed_width p)) (w p) h.commitment
      ∙ (part_past b (c ++ (d ++ u.share)) (transcript_length p) (seed_width p + seed_width p) (w p) h.transcript
      ∙ (part_past c (d ++ u.share) (seed_width p) (seed_width p) (w p) h.seed1
      ∙ part-behind d u.share (seed_width p) (w p) h.seed2 h.share)))

  -- what a slot is made of is shown in it
  pub cut-slot_of : cut p (slot_of u) ≡ u
  unfolding cut slot_of
  cut-slot_of =
      λ i. record {
        commitment = take_at a (b ++ (c ++ (d ++ u.share))) p.digest h.commitment i;
        transcript = next_to a b (c ++ (d ++ u.share)) p.digest (transcript_length p) h.commitment h.transcript i;
        seed1 = seed1_of i;
        seed2 = seed2_of i;
        share = share_of i;
      }

  -- a round in a signature
  pub length-round_of : (e : ℕ) → length (round_of p e u) ≡ sizes (round_fields p e)
  unfolding round_of
  length-round_of e =
      ap length (pack-round p e (slot_of u)) ∙ length-take-le (sizes (round_fields p e)) (slot_of u) (omega (arith, length-slot_of, sizes_bounds p e))

module _ (p : Set) (es sa : Bytes) (us : ℕ → Shown) (le : length es ≡ p.t) (ls : length sa ≡ salt_length)
    (lu : (k : ℕ) → k < p.t → Sized p (us k)) where
  slotted : (k : ℕ) → k < p.t → length (slot_of (us k)) ≡ round_most p
  slotted k h = length-slot_of p (us k) (lu k h)

  pub length-form_of : length (form_of p es sa us) ≡ unpacked_length p
  unfolding form_of
  length-form_of =
      omega (
        arith,
        length-append es (sa ++ joined p.t (λ k. slot_of (us k))),
        length-append sa (joined p.t (λ k. slot_of (us k))),
        length_of_joined (round_most p) (λ k. slot_of (us k)) p.t slotted,
      )

  pub values_of_form_of : values_in p (form_of p es sa us) ≡ es
  unfolding form_of
  values_of_form_of = take_at es _ p.t le

  pub value_of_form_of : (k : ℕ) → k < p.t → get_or (form_of p es sa us) k 0 ≡ get_or es k 0
  unfolding form_of
  value_of_form_of k h = get_or-append es _ 0 k (omega arith)

  pub salt_of_form_of : salt_in p (form_of p es sa us) ≡ sa
  unfolding form_of
  salt_of_form_of =
      let z : p.t ≡ p.t + 0 = omega arith in
      ap (λ (n : ℕ). part (es ++ (sa ++ joined p.t (λ k. slot_of (us k)))) n salt_length) z
      ∙ (part_past es (sa ++ joined p.t (λ k. slot_of (us k))) p.t 0 salt_length le ∙ take_at sa _ salt_length ls)

  pub shown_in_form_of : (k : ℕ) → k < p.t → shown_in p (form_of p es sa us) k ≡ us k
  unfolding form_of
  shown_in_form_of k h =
      shown_by_slot p (form_of p es sa us) k
      ∙ (ap (cut p) (slot_among p es sa (λ k. slot_of (us k)) le ls slotted k h) ∙ cut-slot_of p (us k) (lu k h))

  -- the signature of given parts: header, salt, rounds
  pub signature_of_parts : signature p (form_of p es sa us) ≡ header_of p es ++ (sa ++ joined p.t (λ k. round_of p (get_or es k 0) (us k)))
  signature_of_parts =
      let r : joined p.t (λ k. round_of p (get_or (form_of p es sa us) k 0) (shown_in p (form_of p es sa us) k)) ≡ joined p.t (λ k. round_of p (get_or es k 0) (us k)) =
      joined_cong p.t _ _ (λ k h. ap₂ (round_of p) (value_of_form_of k h) (shown_in_form_of k h)) in
      signature_by_parts p (form_of p es sa us) length-form_of ∙ rw (values_of_form_of, salt_of_form_of, r)

  -- where its round k starts
  pub start_of_round : (k : ℕ) → k ≤ p.t → header_length p + salt_length + length (joined k (λ i. round_of p (get_or es i 0) (us i))) ≡ round_start p es k
  unfolding joined
  start_of_round zero h = sym (start_first p es ∙ omega arith)
  start_of_round (suc k) h =
      let e : round_start p es (suc k) ≡ round_start p es k + sizes (round_fields p (get_or es k 0)) = rw (← (add-one k)) (start-more p es k (omega arith)) in
      omega (
        arith,
        length-append (joined k (λ i. round_of p (get_or es i 0) (us i))) (round_of p (get_or es k 0) (us k)),
        start_of_round k (omega arith),
        length-round_of p (us k) (lu k (omega arith)) (get_or es k 0),
      )
