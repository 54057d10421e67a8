-- Laws of the bytes of a number, and of the words of a byte string.
use mathlib.Core.Path.{◌≡◌, refl, ap, ◌∙◌}
use mathlib.Core.List.{[], ◌∷◌, ◌++◌}
use Prim.Native.Nat.{ℕ, zero, suc, ◌+◌, ◌*◌, ◌/◌, ◌%◌, ◌^◌, ◌<◌}
use native.Mathlib.Omega.{arith}
use native.Mathlib.Nat.{zero-add, suc-add, lt_of_lt_of_le, pow-suc, div-one}
use lib.Bits.{bit_xor, xor_lt}
use lib.ListN.{length, get_or, take, drop, length-drop}
use lib.Pow.{pow_mono, shr-shr}
use lib.Seq.{drop-drop, length-take-le}
use Rattle.std.specs.Int.{w64, to_le_bytes, from_le_bytes}
use Rattle.std.specs.Simd.{first_chunks}
use Rattle.std.proofs.lemmas.List.{get_or-drop}
use Rattle.std.proofs.lemmas.Nat.{le_bytes_8}
use Rattle.bits.proofs.BitsLaws.{xor_assoc}
use Rattle.bits.proofs.NumberLaws.{bit-bit_xor, bit_ext}
use Rattle.slices.specs.Slices.{Bytes, part}
use Rattle.shake.specs.Shake.{octets}

-- ---- numbers

lt_pow : (n : ℕ) → n < 2 ^ n
lt_pow zero = omega arith
lt_pow (suc n) = omega (arith, lt_pow n, pow-suc 2 n)

pub bit_xor_assoc : (a b c : ℕ) → bit_xor (bit_xor a b) c ≡ bit_xor a (bit_xor b c)
bit_xor_assoc a b c =
    let w = a + b + c in
    let ha = lt_of_lt_of_le (lt_pow a) (pow_mono {i = a} {j = w} (omega arith)) in
    let hb = lt_of_lt_of_le (lt_pow b) (pow_mono {i = b} {j = w} (omega arith)) in
    let hc = lt_of_lt_of_le (lt_pow c) (pow_mono {i = c} {j = w} (omega arith)) in
    bit_ext w (bit_xor (bit_xor a b) c) (bit_xor a (bit_xor b c)) (xor_lt w (bit_xor a b) c (xor_lt w a b ha hb) hc) (xor_lt w a (bit_xor b c) ha (xor_lt w b c hb hc))
    (λ k h. simp (bit-bit_xor, xor_assoc))

-- ---- the bytes of a number

pub length-octets : (n w : ℕ) → length (octets n w) ≡ n
unfolding octets
length-octets zero w = refl
length-octets (suc n) w = ap suc (length-octets n (w / 256))

-- the low m bytes, then the n bytes above them
pub octets-append : (m n w : ℕ) → octets (m + n) w ≡ octets m w ++ octets n (w / 2 ^ (8 * m))
unfolding octets
octets-append zero n w = simp (zero-add, div-one)
octets-append (suc m) n w =
    let e : 8 + 8 * m ≡ 8 * suc m = omega arith in
    rw suc-add
    (ap (λ (l : Bytes). w % 256 ∷ l)
    (octets-append m n (w / 256) ∙ ap (λ (x : ℕ). octets m (w / 256) ++ octets n x) (shr-shr w 8 (8 * m) ∙ ap (λ (k : ℕ). w / 2 ^ k) e)))

-- ---- the eight bytes of a word

pub octets-le : (w : ℕ) → octets 8 w ≡ to_le_bytes w64 w
unfolding octets
octets-le w = rw (shr-shr w 8 8, shr-shr w 16 8, shr-shr w 24 8, shr-shr w 32 8, shr-shr w 40 8, shr-shr w 48 8)

-- bytes of bytes
take_small : (n : ℕ) (s : Bytes) → ((k : ℕ) → get_or s k 0 < 256) → (i : ℕ) → get_or (take n s) i 0 < 256
take_small zero s h i = omega arith
take_small (suc n) [] h i = omega arith
take_small (suc n) (x ∷ s) h zero = h 0
take_small (suc n) (x ∷ s) h (suc i) = take_small n s (λ k. h (suc k)) i

-- word q of the first k of a byte string
get_or-words : (k q : ℕ) (s : Bytes) → q < k → get_or (first_chunks 8 k s) q [] ≡ part s (8 * q) 8
get_or-words zero q s h = absurd (omega arith)
get_or-words (suc k) zero s h = refl
get_or-words (suc k) (suc q) s h =
    let e : 8 + 8 * q ≡ 8 * suc q = omega arith in
    get_or-words k q (drop 8 s) (omega arith) ∙ ap (take 8) (drop-drop (8 * q) 8 s) ∙ ap (λ (n : ℕ). part s n 8) e

-- its number has its bytes
pub octets_word : (s : Bytes) (q w : ℕ) → q < length s / 8 → ((k : ℕ) → get_or s k 0 < 256)
    → w ≡ from_le_bytes w64 (get_or (first_chunks 8 (length s / 8) s) q []) → octets 8 w ≡ part s (8 * q) 8
octets_word s q w h f e =
    let i = 8 * q in
    let l : length (part s i 8) ≡ 8 = length-take-le 8 (drop i s) (omega (arith, length-drop i s)) in
    octets-le w ∙ le_bytes_8 (part s i 8) w l (take_small 8 (drop i s) (λ k. rw get_or-drop (f (i + k)))) (rw (get_or-words (length s / 8) q s h) at e)
