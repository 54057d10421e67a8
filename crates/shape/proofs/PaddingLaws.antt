-- Laws of zero padding and of tests of each byte.
use mathlib.Core.Path.{◌≡◌, refl, sym, ap, ◌∙◌}
use mathlib.Core.Logic.{⊎_elim}
use mathlib.Core.Bool.{Bool, true, false, ◌&&◌, and_assoc, and-true}
use mathlib.Core.List.{[], ◌∷◌, ◌++◌}
use Prim.Native.Nat.{ℕ, zero, suc, ◌+◌, ◌*◌, ◌-◌, ◌/◌, ◌%◌, ◌≤◌, ◌<◌}
use native.Mathlib.Omega.{arith}
use native.Mathlib.Numerals.{add-one}
use lib.Dec.{eqb}
use lib.ListN.{length, get_or, take, drop, replicate, length-take, length-replicate, get_or-replicate, get_or-append, get_or-eq_default}
use lib.Seq.{get_or-take, get_or-drop, length-take-le, take-suc}
use borrow.Author.Tests.{eqb-true, eq-eqb}
use Rattle.slices.specs.Slices.{Bytes, part}
use Rattle.bits.specs.Bits.{from, zeros}
use Rattle.bits.specs.Bytes.{bit, bits_of, value, width, Packed}
use Rattle.bits.proofs.NumberLaws.{below, bit_zero, bit-value, value_cong}
use Rattle.bits.proofs.BytesLaws.{bits_past}
use Rattle.shape.specs.Fields.{all, is_zero, zero_padded}
use Rattle.shape.specs.RoundTrips.{AreBytes}

pub and_left : (a b : Bool) → (a && b) ≡ true → a ≡ true
and_left true b e = refl
and_left false b e = e

pub and_right : (a b : Bool) → (a && b) ≡ true → b ≡ true
and_right true b e = e
and_right false true e = refl
and_right false false e = e

-- ---- a test of each byte

module _ (q : ℕ → Bool) where
  pub all_at : (vs : Bytes) → all q vs ≡ true → (k : ℕ) → k < length vs → q (get_or vs k 0) ≡ true
  unfolding all
  all_at [] e k l = absurd (omega arith)
  all_at (v ∷ vs) e zero l = and_left (q v) (all q vs) e
  all_at (v ∷ vs) e (suc k) l = all_at vs (and_right (q v) (all q vs) e) k (omega arith)

  pub all_each : (vs : Bytes) → ((k : ℕ) → k < length vs → q (get_or vs k 0) ≡ true) → all q vs ≡ true
  unfolding all
  all_each [] h = refl
  all_each (v ∷ vs) h = rw (h 0 (omega arith)) (all_each vs (λ (k : ℕ) (l : k < length vs). h (suc k) (omega arith)))

  all_append : (us vs : Bytes) → all q (us ++ vs) ≡ (all q us && all q vs)
  unfolding all
  all_append [] vs = refl
  all_append (u ∷ us) vs = rw (all_append us vs) (sym (and_assoc (q u) (all q us) (all q vs)))

  -- one place more
  pub all_more : (vs : Bytes) (k : ℕ) → k < length vs → all q (take k vs) ≡ true → q (get_or vs k 0) ≡ true → all q (take (k + 1) vs) ≡ true
  unfolding all
  all_more vs k h e g = rw (add-one, take-suc vs k 0 h, all_append, e, and-true, g)

  -- a place that fails
  pub all_fails : (vs : Bytes) (k : ℕ) → k < length vs → q (get_or vs k 0) ≡ false → all q vs ≡ false
  unfolding all
  all_fails [] k h e = absurd (omega arith)
  all_fails (v ∷ vs) zero h e = rw e
  all_fails (v ∷ vs) (suc k) h e = rw (all_fails vs k (omega arith) e) (no (q v))
    where
      no : (b : Bool) → (b && false) ≡ false
      no true = refl
      no false = refl

-- bytes that are all zero
pub all_zero : (vs : Bytes) → all is_zero vs ≡ true → replicate (length vs) 0 ≡ vs
unfolding all
all_zero [] e = refl
all_zero (v ∷ vs) e =
    let h : v ≡ 0 = eqb-true v 0 (and_left _ _ e) in
    let t = all_zero vs (and_right (eqb v 0) _ e) in
    cc

pub zeros-all : (n : ℕ) → all is_zero (replicate n 0) ≡ true
unfolding all
zeros-all zero = refl
zeros-all (suc n) = zeros-all n

-- ---- the bits of the first bytes

pub bits_front : (a b : Bytes) (i : ℕ) → i < 8 * length a → bits_of (a ++ b) i ≡ bits_of a i
unfolding bits_of
bits_front a b i h = ap (λ (v : ℕ). bit v (7 - i % 8)) (get_or-append a b 0 (i / 8) (omega arith))

pub bits-take : (n : ℕ) (s : Bytes) (i : ℕ) → i < 8 * n → bits_of (take n s) i ≡ bits_of s i
unfolding bits_of
bits-take n s i h = ap (λ (v : ℕ). bit v (7 - i % 8)) (get_or-take n s (i / 8) 0 (omega arith))

-- ---- zero padding

-- the bytes of m bits have room for them
pub width_room : (m : ℕ) → (m ≤ 8 * width m) × (8 * width m < m + 8)
unfolding width
width_room m = (omega arith, omega arith)

pub width-whole : (k : ℕ) → width (8 * k) ≡ k
unfolding width
width-whole k = omega arith

-- padding is read off the field's own bytes
padded_same : (m : ℕ) (s x : Bytes) → ((i : ℕ) → i < 8 * width m → bits_of s i ≡ bits_of x i) → zero_padded m s ≡ zero_padded m x
unfolding zero_padded
padded_same m s x h =
    ap (λ (v : ℕ). eqb v 0) (value_cong (8 * width m - m) _ _ (λ j l. h (m + j) (omega arith)))

pub padded-take : (m : ℕ) (s : Bytes) → zero_padded m (take (width m) s) ≡ zero_padded m s
padded-take m s = padded_same m _ s (bits-take (width m) s)

pub padded_front : (m : ℕ) (a b : Bytes) → length a ≡ width m → zero_padded m (a ++ b) ≡ zero_padded m a
padded_front m a b e = padded_same m _ a (λ i h. bits_front a b i (omega arith))

-- whole bytes have no padding
pub padded-whole : (m : ℕ) → 8 * width m ≡ m → (s : Bytes) → zero_padded m s ≡ true
unfolding zero_padded value
padded-whole m e s =
    let z : 8 * width m - m ≡ 0 = omega arith in
    rw z

pub padded-bytes : (k : ℕ) (s : Bytes) → zero_padded (8 * k) s ≡ true
padded-bytes k s = padded-whole (8 * k) (ap (λ (n : ℕ). 8 * n) (width-whole k)) s

-- each bit of it is zero
pub padding-bits : (m : ℕ) (s : Bytes) → zero_padded m s ≡ true → (i : ℕ) → m ≤ i → i < 8 * width m → bits_of s i ≡ false
unfolding zero_padded
padding-bits m s e i l h =
    let k = 8 * width m - m in
    let z : value k (from m (bits_of s)) ≡ 0 = eqb-true _ 0 e in
    let g : m + (i - m) ≡ i = omega arith in
    ap (bits_of s) (sym g)
    ∙ (sym (bit-value k (from m (bits_of s)) (i - m) (omega arith))
    ∙ (ap (λ (v : ℕ). bit v (k - 1 - (i - m))) z ∙ bit_zero (k - 1 - (i - m))))

pub bits-padding : (m : ℕ) (s : Bytes) → ((i : ℕ) → m ≤ i → i < 8 * width m → bits_of s i ≡ false) → zero_padded m s ≡ true
unfolding zero_padded zeros value
bits-padding m s h =
    let k = 8 * width m - m in
    eq-eqb _ 0 (value_cong k (from m (bits_of s)) zeros (λ j l. h (m + j) (omega arith) (omega arith)) ∙ none k)
  where
    none : (k : ℕ) → value k zeros ≡ 0
    none zero = refl
    none (suc k) = rw (none k)

-- bytes that hold m bits, and padded bytes
pub packed-padded : (m : ℕ) (a : Bytes) → Packed m a → zero_padded m a ≡ true
packed-padded m a h = bits-padding m a (λ i l u. h.zero_padding i l)

pub padded-packed : (m : ℕ) (s : Bytes) → zero_padded m s ≡ true → AreBytes (take (width m) s) → width m ≤ length s → Packed m (take (width m) s)
padded-packed m s e small h =
    let l : length (take (width m) s) ≡ width m = length-take-le (width m) s h in
    record {
      wide = l;
      small = small;
      zero_padding =
          λ i g.
          ⊎_elim (λ (q : i < 8 * width m). bits-take (width m) s i q ∙ padding-bits m s e i g q)
          (λ (q : 8 * width m ≤ i). bits_past (take (width m) s) i (omega arith))
          (below i (8 * width m));
    }

-- a part of bytes is bytes
pub bytes-part : (s : Bytes) (at n : ℕ) → AreBytes s → AreBytes (part s at n)
bytes-part s at n small k =
    ⊎_elim (λ (h : k < n). rw (get_or-take n (drop at s) k 0 h, get_or-drop at s k 0) (small (at + k)))
    (λ (h : n ≤ k).
    let l : length (part s at n) ≤ k = omega (arith, length-take n (drop at s)) in
    rw (get_or-eq_default (part s at n) 0 l) (omega arith))
    (below k n)

-- zeros hold m bits
pub packed-zeros : (m : ℕ) → Packed m (replicate (width m) 0)
unfolding bits_of
packed-zeros m =
    record {
      wide = length-replicate (width m) 0;
      small = λ k. rw (zero_at k) (omega arith);
      zero_padding = λ i g. ap (λ (v : ℕ). bit v (7 - i % 8)) (zero_at (i / 8)) ∙ bit_zero (7 - i % 8);
    }
  where
    zero_at : (k : ℕ) → ◌≡◌ {A = ℕ} (get_or (replicate (width m) 0) k 0) 0
    zero_at k =
        ⊎_elim (λ (q : k < width m). get_or-replicate (width m) k 0 0 q)
        (λ (q : width m ≤ k). get_or-eq_default (replicate (width m) 0) 0 (omega (arith, length-replicate {A = ℕ} (width m) 0)))
        (below k (width m))
