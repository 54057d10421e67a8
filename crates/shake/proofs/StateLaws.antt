-- Laws of the bytes of a state: bytes added to it, bytes read from it, and both by the word.
use mathlib.Core.Path.{◌≡◌, refl, sym, ap, ap₂, ◌∙◌, subst}
use mathlib.Core.List.{[], ◌∷◌, ◌++◌}
use Prim.Native.Nat.{ℕ, zero, suc, ◌+◌, ◌-◌, ◌*◌, ◌/◌, ◌%◌, ◌^◌, ◌<◌, ◌≤◌}
use native.Mathlib.Omega.{arith}
use native.Mathlib.Nat.{zero-add, suc-add, add-zero, zero-mul, mul-one, mul_assoc, mod-eq_of_lt, div-one}
use lib.Bits.{bit_xor, xor_comm, xor_zero_r, xor_block, xor_shifted}
use lib.ListN.{length, get_or, set, take, drop, replicate, length-set}
use lib.Pow.{pow_pos, pow-add, mod-pow-add, shr-shr, shr_lt}
use lib.Seq.{set-set, set-get_or, get_or-set_same, lt-length-set, take-add, drop-cons, drop-drop, length-take-le}
use borrow.Rule.Slice.PartMut.{put_mid}
use Rattle.keccak.specs.Lanes.{Lanes}
use Rattle.keccak.proofs.LaneBitsLaws.{shl-mod}
use Rattle.slices.specs.Slices.{Bytes, part, put, over}
use Rattle.slices.proofs.SliceLaws.{over_none, over-put, over-whole}
use Rattle.shake.specs.Shake.{octets, byte_at, bytes_at, byte_added, added}
use Rattle.shake.proofs.OctetsLaws.{bit_xor_assoc, octets-append, length-octets}

-- ---- bytes added

pub length-byte_added : (a : Lanes) (j b : ℕ) → length (byte_added a j b) ≡ length a
unfolding byte_added
length-byte_added a j b = length-set a (j / 8) _

pub added_none : (a : Lanes) (j : ℕ) → a ≡ added a j []
unfolding added
added_none a j = refl

pub added-one : (a : Lanes) (j b : ℕ) → added a j (b ∷ []) ≡ byte_added a j b
unfolding added
added-one a j b = refl

pub added-append : (a : Lanes) (j : ℕ) (p q : Bytes) → added a j (p ++ q) ≡ added (added a j p) (j + length p) q
unfolding added
added-append a j [] q = ap (λ (i : ℕ). added a i q) (sym (add-zero j))
added-append a j (b ∷ p) q =
    let e : j + 1 + length p ≡ j + suc (length p) = omega arith in
    added-append (byte_added a j b) (j + 1) p q ∙ ap (λ (i : ℕ). added (added (byte_added a j b) (j + 1) p) i q) e

-- the first m bytes of s, and n behind them
added-more : (a b : Lanes) (j : ℕ) (s : Bytes) (m n : ℕ) (p : Bytes) → m ≤ length s → b ≡ added a j (take m s) → p ≡ part s m n
    → added b (j + m) p ≡ added a j (take (m + n) s)
added-more a b j s m n p h e f =
    ap₂ (λ (x : Lanes) (q : Bytes). added x (j + m) q) e f
    ∙ ap (λ (k : ℕ). added (added a j (take m s)) (j + k) (part s m n)) (sym (length-take-le m s h))
    ∙ sym (added-append a j (take m s) (part s m n))
    ∙ ap (added a j) (sym (take-add m n s))

-- one word of s more
pub added-word : (a b d : Lanes) (j : ℕ) (s : Bytes) (q w : ℕ) → 8 * q ≤ length s → b ≡ added a j (take (8 * q) s) → octets 8 w ≡ part s (8 * q) 8
    → d ≡ added b (j + 8 * q) (octets 8 w) → d ≡ added a j (take (8 * (q + 1)) s)
added-word a b d j s q w h e f g =
    let z : 8 * q + 8 ≡ 8 * (q + 1) = omega arith in
    g ∙ added-more a b j s (8 * q) 8 (octets 8 w) h e f ∙ ap (λ (n : ℕ). added a j (take n s)) z

-- one byte
pub added-byte : (a b d : Lanes) (j : ℕ) (s : Bytes) (m : ℕ) → m < length s → b ≡ added a j (take m s)
    → d ≡ byte_added b (j + m) (get_or s m 0) → d ≡ added a j (take (m + 1) s)
added-byte a b d j s m h e g =
    g ∙ sym (added-one b (j + m) (get_or s m 0)) ∙ added-more a b j s m 1 (get_or s m 0 ∷ []) (omega arith) e (sym (ap (take 1) (drop-cons s m 0 h)))

byte_added_zero : (a : Lanes) (j : ℕ) → byte_added a j 0 ≡ a
unfolding byte_added
byte_added_zero a j = rw (zero-mul, xor_zero_r, set-get_or)

pub added-zeros : (a : Lanes) (j k : ℕ) (q : Bytes) → added a j (replicate k 0 ++ q) ≡ added a (j + k) q
unfolding added
added-zeros a j zero q = rw add-zero
added-zeros a j (suc k) q =
    let z : j + suc k ≡ j + 1 + k = omega arith in
    ap (λ (x : Lanes). added x (j + 1) (replicate k 0 ++ q)) (byte_added_zero a j) ∙ added-zeros a (j + 1) k q ∙ ap (λ (i : ℕ). added a i q) (sym z)

-- two bytes added at one place
pub byte_added_twice : (a : Lanes) (j b d : ℕ) → j / 8 < length a → byte_added (byte_added a j b) j d ≡ byte_added a j (bit_xor b d)
unfolding byte_added
byte_added_twice a j b d h =
    let k = 8 * (j % 8) in
    let x = xor_block k b d 0 0 (pow_pos k) (pow_pos k) in
    rw (get_or-set_same, set-set, bit_xor_assoc) (ap (λ (v : ℕ). set a (j / 8) (bit_xor (get_or a (j / 8) 0) v)) (simp add-zero at x))

-- ---- a word added

-- a byte at the place s and what stands above it
joins : (s b n : ℕ) → b < 256 → bit_xor (b * 2 ^ s) (n * 2 ^ (8 + s)) ≡ (n * 2 ^ 8 + b) * 2 ^ s
joins s b n h =
    let e : n * 2 ^ (8 + s) ≡ n * 256 * 2 ^ s = ap (λ (x : ℕ). n * x) (pow-add 2 8 s) ∙ sym (mul_assoc n 256 (2 ^ s)) in
    let x = xor_block s b (n * 256) 0 0 (pow_pos s) (pow_pos s) in
    let y : bit_xor b (n * 256) ≡ n * 256 + b = xor_comm b (n * 256) ∙ xor_shifted n 8 b h in
    ap (bit_xor (b * 2 ^ s)) e ∙ (simp add-zero at x) ∙ ap (λ (z : ℕ). z * 2 ^ s) y

place : (k t : ℕ) → t < 8 → ((8 * k + t) / 8 ≡ k) × ((8 * k + t) % 8 ≡ t)
place k t h = (omega arith, omega arith)

byte_added_at : (a : Lanes) (k t b : ℕ) → t < 8 → byte_added a (8 * k + t) b ≡ set a k (bit_xor (get_or a k 0) (b * 2 ^ (8 * t)))
unfolding byte_added
byte_added_at a k t b h = rw ((place k t h).0, (place k t h).1)

-- within one lane
added-lane : (a : Lanes) (k t n w : ℕ) → k < length a → t + n ≤ 8
    → added a (8 * k + t) (octets n w) ≡ set a k (bit_xor (get_or a k 0) (w % 2 ^ (8 * n) * 2 ^ (8 * t)))
unfolding added octets
added-lane a k t zero w hk ht =
    let e : w % 1 ≡ 0 = omega arith in
    sym (rw (e, zero-mul, xor_zero_r, set-get_or))
added-lane a k t (suc n) w hk ht =
    let x = get_or a k 0 in
    let b = w % 256 in
    let m = w / 256 % 2 ^ (8 * n) in
    let u = bit_xor x (b * 2 ^ (8 * t)) in
    let nx : 8 * k + t + 1 ≡ 8 * k + (t + 1) = omega arith in
    let s8 : 8 * (t + 1) ≡ 8 + 8 * t = omega arith in
    let n8 : 8 * suc n ≡ 8 * n + 8 = omega arith in
    let ih = added-lane (set a k u) k (t + 1) n (w / 256) (lt-length-set a k u hk) (omega arith) in
    let v : bit_xor (b * 2 ^ (8 * t)) (m * 2 ^ (8 * (t + 1))) ≡ w % 2 ^ (8 * suc n) * 2 ^ (8 * t) =
    ap (λ (j : ℕ). bit_xor (b * 2 ^ (8 * t)) (m * 2 ^ j)) s8 ∙ joins (8 * t) b m (omega arith)
    ∙ ap (λ (y : ℕ). y * 2 ^ (8 * t)) (sym (ap (λ (j : ℕ). w % 2 ^ j) n8 ∙ mod-pow-add w (8 * n) 8)) in
    ap₂ (λ (z : Lanes) (j : ℕ). added z j (octets n (w / 256))) (byte_added_at a k t b (omega arith)) nx
    ∙ ih
    ∙ ap (λ (y : ℕ). set (set a k u) k (bit_xor y (m * 2 ^ (8 * (t + 1))))) (get_or-set_same a k u 0 hk)
    ∙ set-set a k u _
    ∙ ap (set a k) (bit_xor_assoc x (b * 2 ^ (8 * t)) (m * 2 ^ (8 * (t + 1))) ∙ ap (bit_xor x) v)

module _ (a : Lanes) (j w : ℕ) (la : length a ≡ 25) (hj : j < 192) (hw : w < 2 ^ 64) where
  split : 8 * (j / 8) + j % 8 ≡ j
  split = omega arith

  -- the eight bytes of a word that start with a lane
  pub word_aligned : 8 * (j % 8) ≡ 0 → set a (j / 8) (bit_xor (get_or a (j / 8) 0) (w * 2 ^ (8 * (j % 8)) % 2 ^ 64)) ≡ added a j (octets 8 w)
  word_aligned e =
      let z : j % 8 ≡ 0 = omega arith in
      let k : 8 * (j / 8) + 0 ≡ j = omega arith in
      let v : w % 2 ^ 64 * 1 ≡ w * 2 ^ (8 * (j % 8)) % 2 ^ 64 = mul-one (w % 2 ^ 64)
      ∙ sym (ap (λ (n : ℕ). w * 2 ^ n % 2 ^ 64) e ∙ ap (λ (n : ℕ). n % 2 ^ 64) (mul-one w)) in
      sym
      (ap (λ (n : ℕ). added a n (octets 8 w)) (sym k) ∙ added-lane a (j / 8) 0 8 w (omega arith) (omega arith)
      ∙ ap (λ (x : ℕ). set a (j / 8) (bit_xor (get_or a (j / 8) 0) x)) v)

  -- the eight bytes of a word that start within a lane and end in the next one
  pub word_across : (b : Lanes) → b ≡ set a (j / 8) (bit_xor (get_or a (j / 8) 0) (w * 2 ^ (8 * (j % 8)) % 2 ^ 64))
      → set b (j / 8 + 1) (bit_xor (get_or b (j / 8 + 1) 0) (w / 2 ^ (64 - 8 * (j % 8)))) ≡ added a j (octets 8 w)
  word_across b e =
      let k = j / 8 in
      let t = j % 8 in
      let m = 8 - t in
      let h = w / 2 ^ (8 * m) in
      let e8 : m + t ≡ 8 = omega arith in
      let e64 : 8 * m + 8 * t ≡ 64 = omega arith in
      let r64 : 8 * t + 8 * m ≡ 64 = omega arith in
      let q : 8 * m ≡ 64 - 8 * t = omega arith in
      let i : j + length (octets m w) ≡ 8 * (k + 1) + 0 = omega (arith, length-octets m w) in
      let lb : length b ≡ length a = ap length e ∙ length-set a k _ in
      let lo : added a j (octets m w) ≡ b =
      ap (λ (n : ℕ). added a n (octets m w)) (sym split) ∙ added-lane a k t m w (omega arith) (omega arith)
      ∙ sym (e ∙ ap (λ (v : ℕ). set a k (bit_xor (get_or a k 0) v)) (ap (λ (x : ℕ). w * 2 ^ (8 * t) % 2 ^ x) (sym e64) ∙ shl-mod w (8 * t) (8 * m))) in
      let hi : h % 2 ^ (8 * t) * 1 ≡ w / 2 ^ (64 - 8 * t) =
      mul-one (h % 2 ^ (8 * t)) ∙ mod-eq_of_lt (shr_lt (8 * t) (8 * m) (subst (λ (x : ℕ). w < 2 ^ x) (sym r64) hw)) ∙ ap (λ (x : ℕ). w / 2 ^ x) q in
      sym
      (ap (added a j) (ap (λ (n : ℕ). octets n w) (sym e8) ∙ octets-append m t w)
      ∙ added-append a j (octets m w) (octets t h)
      ∙ ap₂ (λ (z : Lanes) (n : ℕ). added z n (octets t h)) lo i
      ∙ added-lane b (k + 1) 0 t h (omega arith) (omega arith)
      ∙ ap (λ (v : ℕ). set b (k + 1) (bit_xor (get_or b (k + 1) 0) v)) hi)

-- ---- bytes read

pub length-bytes_at : (a : Lanes) (j n : ℕ) → length (bytes_at a j n) ≡ n
unfolding bytes_at
length-bytes_at a j zero = refl
length-bytes_at a j (suc n) = ap suc (length-bytes_at a (j + 1) n)

pub bytes_at-append : (a : Lanes) (j m n : ℕ) → bytes_at a j (m + n) ≡ bytes_at a j m ++ bytes_at a (j + m) n
unfolding bytes_at
bytes_at-append a j zero n = rw (zero-add, add-zero)
bytes_at-append a j (suc m) n =
    let e : j + 1 + m ≡ j + suc m = omega arith in
    rw suc-add (ap (λ (l : Bytes). byte_at a j ∷ l) (bytes_at-append a (j + 1) m n ∙ ap (λ (i : ℕ). bytes_at a (j + 1) m ++ bytes_at a i n) e))

pub take-bytes_at : (a : Lanes) (j n k : ℕ) → n ≤ k → take n (bytes_at a j k) ≡ bytes_at a j n
unfolding bytes_at
take-bytes_at a j zero k h = refl
take-bytes_at a j (suc n) zero h = absurd (omega arith)
take-bytes_at a j (suc n) (suc k) h = ap (λ (l : Bytes). byte_at a j ∷ l) (take-bytes_at a (j + 1) n k (omega arith))

byte_at_at : (a : Lanes) (k t : ℕ) → t < 8 → byte_at a (8 * k + t) ≡ get_or a k 0 / 2 ^ (8 * t) % 256
unfolding byte_at
byte_at_at a k t h = rw ((place k t h).0, (place k t h).1)

-- within one lane
bytes_at-lane : (a : Lanes) (k t n : ℕ) → t + n ≤ 8 → bytes_at a (8 * k + t) n ≡ octets n (get_or a k 0 / 2 ^ (8 * t))
unfolding bytes_at octets
bytes_at-lane a k t zero h = refl
bytes_at-lane a k t (suc n) h =
    let x = get_or a k 0 in
    let nx : 8 * k + t + 1 ≡ 8 * k + (t + 1) = omega arith in
    let e : 8 * t + 8 ≡ 8 * (t + 1) = omega arith in
    ap₂ ◌∷◌ (byte_at_at a k t (omega arith))
    (ap (λ (j : ℕ). bytes_at a j n) nx ∙ bytes_at-lane a k (t + 1) n (omega arith)
    ∙ ap (octets n) (sym (shr-shr x (8 * t) 8 ∙ ap (λ (j : ℕ). x / 2 ^ j) e)))

-- the eight bytes of a lane
pub bytes_at-word : (a : Lanes) (k : ℕ) → octets 8 (get_or a k 0) ≡ bytes_at a (8 * k) 8
bytes_at-word a k =
    let z : 8 * k + 0 ≡ 8 * k = omega arith in
    sym (ap (λ (i : ℕ). bytes_at a i 8) (sym z) ∙ bytes_at-lane a k 0 8 (omega arith) ∙ ap (octets 8) (div-one (get_or a k 0)))

pub bytes_at-one : (a : Lanes) (j b : ℕ) → b ≡ byte_at a j → b ∷ [] ≡ bytes_at a j 1
unfolding bytes_at
bytes_at-one a j b e = ap (λ (x : ℕ). x ∷ []) e

-- none of them stored
pub over-bytes_at-none : (s : Bytes) (a : Lanes) (j : ℕ) → s ≡ over (bytes_at a j 0) s
unfolding bytes_at
over-bytes_at-none s a j = over_none s

-- more of them stored behind the first m
pub over-bytes_at : (s t : Bytes) (a : Lanes) (j m n : ℕ) (p : Bytes) → m + n ≤ length s → t ≡ over (bytes_at a j m) s → p ≡ bytes_at a (j + m) n
    → put t m p ≡ over (bytes_at a j (m + n)) s
over-bytes_at s t a j m n p h e f =
    let l = length-bytes_at a j m in
    let k = length-bytes_at a (j + m) n in
    ap₂ (λ (x q : Bytes). put x m q) e f
    ∙ ap (λ (z : ℕ). put (over (bytes_at a j m) s) z (bytes_at a (j + m) n)) (sym l)
    ∙ over-put (bytes_at a j m) (bytes_at a (j + m) n) s (omega (arith, l, k))
    ∙ ap (λ (q : Bytes). over q s) (sym (bytes_at-append a j m n))

-- a whole slice of them
pub over-bytes_at-all : (s t : Bytes) (a : Lanes) (j n : ℕ) → n ≡ length s → t ≡ over (bytes_at a j n) s → t ≡ bytes_at a j n
over-bytes_at-all s t a j n h e = e ∙ over-whole (bytes_at a j n) s (length-bytes_at a j n ∙ h)

-- what is written to the part of s that begins at i
pub put_mid-put : (s p : Bytes) (i k : ℕ) → length p ≡ k → put_mid i k s p ≡ put s i p
unfolding put
put_mid-put s p i k h = ap (λ (x : Bytes). take i s ++ (p ++ x)) (drop-drop k i s ∙ ap (λ (n : ℕ). drop (i + n) s) (sym h))
