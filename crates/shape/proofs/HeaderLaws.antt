-- Laws of the header: the values of a header, and the header of values.
use mathlib.Core.Path.{◌≡◌, refl, sym, ap, ap₂, ◌∙◌}
use mathlib.Core.Logic.{⊎_elim}
use mathlib.Core.Bool.{Bool, true, false}
use mathlib.Core.List.{List, [], ◌∷◌, ◌++◌}
use Prim.Native.Nat.{ℕ, zero, suc, ◌+◌, ◌*◌, ◌-◌, ◌/◌, ◌%◌, ◌^◌, ◌≤◌, ◌<◌}
use native.Mathlib.Omega.{arith}
use native.Mathlib.Nat.{mul-one}
use lib.Dec.{lit<}
use lib.Pow.{shr-shr}
use lib.ListN.{length, get_or, take, get_or-append, get_or-eq_default}
use lib.Seq.{get_or-append-add, ext_get_or}
use Rattle.slices.specs.Slices.{Bytes, joined}
use Rattle.slices.proofs.SliceLaws.{length-joined}
use Rattle.bits.specs.Bits.{Bits, from, up_to}
use Rattle.bits.specs.Bytes.{odd, bit, bits_of, digit, value}
use Rattle.bits.proofs.BitsLaws.{up_to_in, up_to_out}
use Rattle.bits.proofs.NumberLaws.{below, digit_le, digit-odd, bit_zero, value_cong, value-add}
use Rattle.bits.proofs.BytesLaws.{at_bit, length-bytes_of, bytes_of_cong, bits_of_bytes_of, packed, packed-bytes}
use Rattle.sets.specs.declared.Set.{Set}
use Rattle.sets.specs.Lengths.{header_length}
use Rattle.shape.specs.Fields.{zero_padded}
use Rattle.shape.specs.Header.{place, pair_bits, header_of, value_at, values}
use Rattle.shape.specs.RoundTrips.{AreBytes}
use Rattle.shape.proofs.PaddingLaws.{bits_front, bits-take, width_room, padded_front, packed-padded, padded-packed, bytes-part}

-- ---- the two bits of a value: by computing, whichever stands first

place_below : (b : ℕ) → b < 2 → place b < 2
unfolding place
place_below zero h = lit< tt
place_below (suc zero) h = lit< tt
place_below (suc (suc b)) h = absurd (omega arith)

place-place : (b : ℕ) → b < 2 → place (place b) ≡ b
unfolding place
place-place zero h = refl
place-place (suc zero) h = refl
place-place (suc (suc b)) h = absurd (omega arith)

low_of_two : (a b : Bool) → bit (2 * digit a + digit b) 0 ≡ b
unfolding bit odd
low_of_two true true = refl
low_of_two true false = refl
low_of_two false true = refl
low_of_two false false = refl

high_of_two : (a b : Bool) → bit (2 * digit a + digit b) 1 ≡ a
unfolding bit odd
high_of_two true true = refl
high_of_two true false = refl
high_of_two false true = refl
high_of_two false false = refl

two_of_value : (v : ℕ) → v < 4 → 2 * digit (bit v 1) + digit (bit v 0) ≡ v
unfolding bit odd
two_of_value zero h = refl
two_of_value (suc zero) h = refl
two_of_value (suc (suc zero)) h = refl
two_of_value (suc (suc (suc zero))) h = refl
two_of_value (suc (suc (suc (suc v)))) h = absurd (omega arith)

-- a number of two bits with the bits exchanged
exchanged : (v a b : ℕ) → b < 2 → v ≡ 2 * a + b → 2 * (v % 2) + v / 2 ≡ 2 * b + a
exchanged v a b h e = omega arith

-- ---- the values of a header

-- numbers one after the other
pub get_d_joined : (f : ℕ → ℕ) (n k : ℕ) → k < n → get_or (joined n (λ i. f i ∷ [])) k 0 ≡ f k
unfolding joined
get_d_joined f zero k h = absurd (omega arith)
get_d_joined f (suc n) k h =
    ⊎_elim (λ (q : k < n). get_or-append (joined n (λ i. f i ∷ [])) _ 0 k (omega (arith, l)) ∙ get_d_joined f n k q)
    (λ (q : n ≤ k).
    let e : k ≡ length (joined n (λ i. f i ∷ [])) + 0 = omega (arith, l) in
    let d : n ≡ k = omega arith in
    ap (λ (i : ℕ). get_or (joined (suc n) (λ i. f i ∷ [])) i 0) e ∙ (get_or-append-add (joined n (λ i. f i ∷ [])) _ 0 0 ∙ ap f d))
    (below k n)
  where
    l : length (joined n (λ i. f i ∷ [])) ≡ n
    l = length-joined 1 (λ i. f i ∷ []) (λ i. refl) n ∙ mul-one n

pub length-values : (p : Set) (s : Bytes) → length (values p s) ≡ p.t
unfolding values
length-values p s = length-joined 1 (λ k. value_at s k ∷ []) (λ i. refl) p.t ∙ mul-one p.t

pub get_d_values : (p : Set) (s : Bytes) (k : ℕ) → k < p.t → get_or (values p s) k 0 ≡ value_at s k
unfolding values
get_d_values p s k h = get_d_joined (value_at s) p.t k h

bit_of_value : (s : Bytes) (k b : ℕ) → b < 2 → bit (value_at s k) b ≡ bits_of s (2 * k + place b)
unfolding value_at
bit_of_value s k zero h = low_of_two (bits_of s (2 * k + place 1)) (bits_of s (2 * k + place 0))
bit_of_value s k (suc zero) h = high_of_two (bits_of s (2 * k + place 1)) (bits_of s (2 * k + place 0))
bit_of_value s k (suc (suc b)) h = absurd (omega arith)

-- the bits of the values are those of the header
pairs_of_values : (p : Set) (s : Bytes) (i : ℕ) → i < 2 * p.t → pair_bits (values p s) i ≡ bits_of s i
unfolding pair_bits
pairs_of_values p s i h =
    let j = i % 2 in
    let e : 2 * (i / 2) + j ≡ i = omega arith in
    ap (λ (v : ℕ). bit v (place j)) (get_d_values p s (i / 2) (omega arith))
    ∙ (bit_of_value s (i / 2) (place j) (place_below j (omega arith))
    ∙ ap (bits_of s) (ap (λ (n : ℕ). 2 * (i / 2) + n) (place-place j (omega arith)) ∙ e))

-- ---- the header of values

pub length_header : (p : Set) (vs : List ℕ) → length (header_of p vs) ≡ header_length p
unfolding header_of
length_header p vs = length-bytes_of (2 * p.t) (pair_bits vs)

-- what is read off a header is written again as the same bytes
pub header_of_values : (p : Set) (s : Bytes) → AreBytes s → header_length p ≤ length s → zero_padded (2 * p.t) s ≡ true
    → header_of p (values p s) ≡ take (header_length p) s
unfolding header_of
header_of_values p s small h e =
    bytes_of_cong (2 * p.t) _ _ (λ i l. pairs_of_values p s i l ∙ sym (bits-take (header_length p) s i (omega (arith, width_room (2 * p.t)))))
    ∙ packed-bytes (2 * p.t) (take (header_length p) s) (padded-packed (2 * p.t) s e (bytes-part s 0 (header_length p) small) h)

module _ (p : Set) (vs : List ℕ) (rest : Bytes) where
  -- a bit of a header
  bit_of_header : (k b : ℕ) → k < p.t → b < 2 → bits_of (header_of p vs ++ rest) (2 * k + b) ≡ bit (get_or vs k 0) (place b)
  unfolding header_of pair_bits
  bit_of_header k b h l =
      let d : (2 * k + b) / 2 ≡ k = omega arith in
      let m : (2 * k + b) % 2 ≡ b = omega arith in
      bits_front (header_of p vs) rest (2 * k + b) (omega (arith, length_header p vs, width_room (2 * p.t)))
      ∙ (ap (λ (f : Bits). f (2 * k + b)) (bits_of_bytes_of (2 * p.t) (pair_bits vs))
      ∙ (up_to_in (2 * p.t) (pair_bits vs) (2 * k + b) (omega arith) ∙ ap₂ (λ (i j : ℕ). bit (get_or vs i 0) (place j)) d m))

  -- what is written into a header is read again
  pub value_of_header : (k : ℕ) → k < p.t → get_or vs k 0 < 4 → value_at (header_of p vs ++ rest) k ≡ get_or vs k 0
  unfolding value_at
  value_of_header k h l =
      ap₂ (λ (a b : Bool). 2 * digit a + digit b) (there 1 (omega arith)) (there 0 (omega arith)) ∙ two_of_value (get_or vs k 0) l
    where
      there : (b : ℕ) → b < 2 → bits_of (header_of p vs ++ rest) (2 * k + place b) ≡ bit (get_or vs k 0) b
      there b q = bit_of_header k (place b) h (place_below b q) ∙ ap (bit (get_or vs k 0)) (place-place b q)

  pub values_of_header : length vs ≡ p.t → ((k : ℕ) → get_or vs k 0 < 4) → values p (header_of p vs ++ rest) ≡ vs
  values_of_header e small =
      ext_get_or 0 (values p (header_of p vs ++ rest)) vs (length-values p _ ∙ sym e)
      (λ k l.
      let h : k < p.t = omega (arith, length-values p (header_of p vs ++ rest)) in
      get_d_values p _ k h ∙ value_of_header k h (small k))

  -- and its padding is zero
  pub padded_header : zero_padded (2 * p.t) (header_of p vs ++ rest) ≡ true
  unfolding header_of
  padded_header =
      padded_front (2 * p.t) (header_of p vs) rest (length_header p vs)
      ∙ packed-padded (2 * p.t) (header_of p vs) (packed (2 * p.t) (pair_bits vs))

-- ---- as code goes: by bytes, whose pairs are numbers with the bits exchanged

-- a value from the byte that holds it
pub value_in_byte : (s : Bytes) (k : ℕ)
    → 2 * (get_or s (k / 4) 0 / 2 ^ (6 - 2 * (k % 4)) % 4 % 2) + get_or s (k / 4) 0 / 2 ^ (6 - 2 * (k % 4)) % 4 / 2 ≡ value_at s k
unfolding value_at place bit
value_in_byte s k =
    let v = get_or s (k / 4) 0 in
    let j = 2 * (k % 4) in
    let first : bits_of s (2 * k + 0) ≡ bit v (6 - j + 1) =
    ap (bits_of s) (omega arith) ∙ (at_bit s (k / 4) j (omega arith) ∙ ap (bit v) (omega arith)) in
    let second : bits_of s (2 * k + 1) ≡ bit v (6 - j) =
    ap (bits_of s) (omega arith) ∙ (at_bit s (k / 4) (j + 1) (omega arith) ∙ ap (bit v) (omega arith)) in
    let y : ℕ = v / 2 ^ (6 - j) in
    let z : ℕ = v / 2 ^ (6 - j + 1) in
    let two : y / 2 ≡ z = shr-shr v (6 - j) 1 in
    let four : y % 4 ≡ 2 * (y / 2 % 2) + y % 2 = omega arith in
    exchanged (y % 4) (y / 2 % 2) (y % 2) (omega arith) four
    ∙ (ap₂ (λ (a b : ℕ). 2 * a + b % 2) (digit-odd y) two
    ∙ (ap (λ (a : ℕ). 2 * digit (odd y) + a) (digit-odd z) ∙ sym (ap₂ (λ (a b : Bool). 2 * digit a + digit b) second first)))

-- past the last value there are no bits
pub pairs_end : (vs : List ℕ) → up_to (2 * length vs) (pair_bits vs) ≡ pair_bits vs
unfolding pair_bits
pairs_end vs = λ q i. at i q
  where
    at : (i : ℕ) → up_to (2 * length vs) (pair_bits vs) i ≡ pair_bits vs i
    at i =
        ⊎_elim (λ (h : i < 2 * length vs). up_to_in (2 * length vs) (pair_bits vs) i h)
        (λ (h : 2 * length vs ≤ i).
        up_to_out (2 * length vs) (pair_bits vs) i h
        ∙ sym (ap (λ (v : ℕ). bit v (place (i % 2))) (get_or-eq_default vs 0 (omega arith)) ∙ bit_zero (place (i % 2))))
        (below i (2 * length vs))

-- the pair of a value
pub pair-value : (vs : List ℕ) (k : ℕ) → get_or vs k 0 < 4 → 2 * (get_or vs k 0 % 2) + get_or vs k 0 / 2 ≡ value 2 (from (2 * k) (pair_bits vs))
unfolding value pair_bits place
pair-value vs k h =
    let v = get_or vs k 0 in
    exchanged v (digit (bit v 1)) (digit (bit v 0)) (omega (arith, digit_le (bit v 0))) (sym (two_of_value v h))
    ∙ (omega arith ∙ sym (ap₂ (λ (a b : Bool). (0 * 2 + digit a) * 2 + digit b) (there 0 (omega arith)) (there 1 (omega arith))))
  where
    there : (b : ℕ) → b < 2 → pair_bits vs (2 * k + b) ≡ bit (get_or vs k 0) b
    there b l =
        let d : (2 * k + b) / 2 ≡ k = omega arith in
        let m : (2 * k + b) % 2 ≡ b = omega arith in
        ap₂ (λ (i j : ℕ). bit (get_or vs i 0) j) d m

-- a byte is made of four pairs
pub byte_of_pairs : (f : Bits) (i : ℕ)
    → value 2 (from (2 * (4 * i)) f) * 64 + value 2 (from (2 * (4 * i + 1)) f) * 16 + value 2 (from (2 * (4 * i + 2)) f) * 4
    + value 2 (from (2 * (4 * i + 3)) f)
    ≡ value 8 (from (8 * i) f)
byte_of_pairs f i =
    let x1 : Bits = from 2 x in
    let x2 : Bits = from 2 x1 in
    let x3 : Bits = from 2 x2 in
    omega (
      arith,
      value-add 2 6 x,
      value-add 2 4 x1,
      value-add 2 2 x2,
      same x (4 * i) (λ j. ap f (omega arith)),
      same x1 (4 * i + 1) (λ j. ap f (omega arith)),
      same x2 (4 * i + 2) (λ j. ap f (omega arith)),
      same x3 (4 * i + 3) (λ j. ap f (omega arith)),
    )
  where
    x : Bits
    x = from (8 * i) f

    same : (g : Bits) (k : ℕ) → ((j : ℕ) → g j ≡ f (2 * k + j)) → value 2 g ≡ value 2 (from (2 * k) f)
    same g k e = value_cong 2 g (from (2 * k) f) (λ j l. e j)
