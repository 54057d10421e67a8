-- Laws of pairs of bits and of the values that they give.
use mathlib.Core.Path.{◌≡◌, refl, sym, ap, ap₂, ◌∙◌}
use mathlib.Core.Bool.{Bool, true, false, cond}
use mathlib.Core.List.{[], ◌∷◌, ◌++◌}
use Prim.Native.Nat.{ℕ, zero, suc, ◌+◌, ◌-◌, ◌*◌, ◌/◌, ◌%◌, ◌^◌, ◌≤◌, ◌<◌}
use native.Mathlib.Numerals.{add-one}
use native.Mathlib.Omega.{arith}
use lib.Dec.{ltb}
use lib.ListN.{length, get_or, length-append, get_or-append}
use lib.Seq.{get_or-append-add}
use borrow.Author.Tests.{lt-ltb, le-ltb, ltb-true}
use Rattle.slices.specs.Slices.{Bytes, joined}
use Rattle.slices.proofs.SliceLaws.{joined_cong, joined-add}
use Rattle.bits.specs.Bytes.{bit, bits_of, digit, value}
use Rattle.bits.proofs.NumberLaws.{bit-shr, bit_low0, digit-odd, value_cong}
use Rattle.bits.proofs.BytesLaws.{at_bit}
use Rattle.challenge.specs.Pairs.{pair, value_of, values_to, all_values}

-- ---- one pair

-- the two lowest bits of a number, as a number
two-bits : (x : ℕ) → (0 * 2 + digit (bit x 1)) * 2 + digit (bit x 0) ≡ x % 4
unfolding bit
two-bits x = omega (arith, digit-odd (x / 2), digit-odd x, ap digit (bit_low0 x))

-- a pair, taken out of its byte
pub pair_is : (l : Bytes) (j : ℕ) → get_or l (j / 4) 0 / 2 ^ (6 - 2 * (j % 4)) % 4 ≡ pair l j
unfolding pair value
pair_is l j =
    let v = get_or l (j / 4) 0 in
    let s = 6 - 2 * (j % 4) in
    let e0 : bits_of l (2 * j + 0) ≡ bit (v / 2 ^ s) 1 =
    ap (bits_of l) (omega arith) ∙ at_bit l (j / 4) (2 * (j % 4)) (omega arith) ∙ ap (bit v) (omega arith) ∙ sym (bit-shr v s 1) in
    let e1 : bits_of l (2 * j + 1) ≡ bit (v / 2 ^ s) 0 =
    ap (bits_of l) (omega arith) ∙ at_bit l (j / 4) (2 * (j % 4) + 1) (omega arith) ∙ ap (bit v) (omega arith) ∙ sym (bit-shr v s 0) in
    sym (ap₂ (λ (a b : Bool). (0 * 2 + digit a) * 2 + digit b) e0 e1 ∙ two-bits (v / 2 ^ s))

-- ---- two byte strings, one after the other

bits_front : (l m : Bytes) (i : ℕ) → i < 8 * length l → bits_of (l ++ m) i ≡ bits_of l i
unfolding bits_of
bits_front l m i h = ap (λ (v : ℕ). bit v (7 - i % 8)) (get_or-append l m 0 (i / 8) (omega arith))

bits-behind : (l m : Bytes) (i : ℕ) → bits_of (l ++ m) (8 * length l + i) ≡ bits_of m i
unfolding bits_of
bits-behind l m i =
    let d : (8 * length l + i) / 8 ≡ length l + i / 8 = omega arith in
    let r : (8 * length l + i) % 8 ≡ i % 8 = omega arith in
    ap₂ (λ (a b : ℕ). bit (get_or (l ++ m) a 0) (7 - b)) d r ∙ ap (λ (v : ℕ). bit v (7 - i % 8)) (get_or-append-add l m (i / 8) 0)

pair_front : (l m : Bytes) (j : ℕ) → j < 4 * length l → pair (l ++ m) j ≡ pair l j
unfolding pair
pair_front l m j h = value_cong 2 _ _ (λ i n. bits_front l m (2 * j + i) (omega arith))

pair-behind : (l m : Bytes) (j : ℕ) → pair (l ++ m) (4 * length l + j) ≡ pair m j
unfolding pair
pair-behind l m j = value_cong 2 _ _ (λ i n. ap (bits_of (l ++ m)) (omega arith) ∙ bits-behind l m (2 * j + i))

-- the pairs of a front are its own
pub values_front : (l m : Bytes) (k : ℕ) → k ≤ 4 * length l → values_to k (l ++ m) ≡ values_to k l
unfolding values_to
values_front l m k h = joined_cong k _ _ (λ j n. ap value_of (pair_front l m j (omega arith)))

-- first the values of the one, then of the other
pub values-append : (l m : Bytes) → all_values (l ++ m) ≡ all_values l ++ all_values m
unfolding all_values values_to
values-append l m =
    let e : 4 * length (l ++ m) ≡ 4 * length l + 4 * length m = omega (arith, length-append l m) in
    ap (λ (n : ℕ). joined n (λ j. value_of (pair (l ++ m) j))) e
    ∙ joined-add (λ j. value_of (pair (l ++ m) j)) (4 * length l) (4 * length m)
    ∙ ap₂ ◌++◌ (values_front l m (4 * length l) (omega arith)) (joined_cong (4 * length m) _ _ (λ j n. ap value_of (pair-behind l m j)))

-- ---- one pair after the other

pub values-none : (l : Bytes) → values_to 0 l ≡ []
unfolding values_to joined
values-none l = refl

-- one pair more
pub values-next : (k : ℕ) (l : Bytes) → values_to (k + 1) l ≡ values_to k l ++ value_of (pair l k)
unfolding values_to joined
values-next k l = ap (λ (n : ℕ). joined n (λ j. value_of (pair l j))) (add-one k)

-- a pair 11 gives nothing
pub value_skipped : (v : ℕ) → 3 ≤ v → value_of v ≡ []
unfolding value_of
value_skipped v h = rw (le-ltb v 3 h)

-- another pair gives its value
pub value-given : (v : ℕ) → v < 3 → value_of v ≡ v ∷ []
unfolding value_of
value-given v h = rw (lt-ltb v 3 h)

-- ---- how many values, and which

one-most : (b : Bool) (v : ℕ) → length (cond b (v ∷ []) []) ≤ 1
one-most true v = omega arith
one-most false v = omega arith

values_to_most : (k : ℕ) (l : Bytes) → length (values_to k l) ≤ k
unfolding values_to value_of joined
values_to_most zero l = omega arith
values_to_most (suc k) l =
    omega (arith, length-append (values_to k l) (value_of (pair l k)), values_to_most k l, one-most (ltb (pair l k) 3) (pair l k))

-- at most one value a pair
pub values-most : (l : Bytes) → length (all_values l) ≤ 4 * length l
unfolding all_values
values-most l = values_to_most (4 * length l) l

one-small : (b : Bool) (v i : ℕ) → ltb v 3 ≡ b → get_or (cond b (v ∷ []) []) i 0 < 3
one-small true v zero e = ltb-true v 3 e
one-small true v (suc i) e = omega arith
one-small false v i e = omega arith

append-small : (l m : Bytes) → ((i : ℕ) → get_or l i 0 < 3) → ((i : ℕ) → get_or m i 0 < 3) → (i : ℕ) → get_or (l ++ m) i 0 < 3
append-small [] m f g i = g i
append-small (x ∷ l) m f g zero = f zero
append-small (x ∷ l) m f g (suc i) = append-small l m (λ j. f (suc j)) g i

values_to_small : (k : ℕ) (l : Bytes) (i : ℕ) → get_or (values_to k l) i 0 < 3
unfolding values_to value_of joined
values_to_small zero l i = omega arith
values_to_small (suc k) l i =
    append-small (values_to k l) (value_of (pair l k)) (values_to_small k l) (λ j. one-small (ltb (pair l k) 3) (pair l k) j refl) i

-- a value is 0, 1 or 2
pub values-small : (l : Bytes) (i : ℕ) → get_or (all_values l) i 0 < 3
unfolding all_values
values-small l i = values_to_small (4 * length l) l i
