-- Laws of lent tables: what the numbers of a set give, where matrices and constants lie, and what their lent parts say.
use mathlib.Core.Path.{◌≡◌, refl, sym, ap, ap₂, ◌∙◌}
use mathlib.Core.Bool.{false}
use Prim.Native.Nat.{ℕ, ◌+◌, ◌-◌, ◌*◌, ◌≤◌, ◌<◌}
use native.Mathlib.Nat.{mul-le-mul_right, add-mul, one-mul, mul_assoc}
use native.Mathlib.Omega.{arith}
use lib.ListN.{length, take, drop, length-take, length-drop}
use lib.Seq.{length-take-le}
use Rattle.slices.specs.Slices.{Bytes, part}
use Rattle.bits.specs.Bits.{Bits}
use Rattle.bits.specs.Bytes.{bits_of, width}
use Rattle.bits.proofs.BytesLaws.{bits_past}
use Rattle.sets.specs.declared.Set.{Set}
use Rattle.sets.specs.Sets.{IsSet}
use Rattle.sets.specs.Lengths.{w, constants_length}
use Rattle.sets.proofs.Each.{each}
use Rattle.circuit.specs.Matrices.{product}
use Rattle.lowmc.specs.declared.tables.Tables.{Tables}
use Rattle.lowmc.specs.Lent.{row, matrix, matrix_of, constant_of}
use Rattle.lowmc.specs.Inner.{Words, InWord}

-- ---- the numbers of a set

module _ {p : Set} (h : IsSet p) where
  -- a block fills its bytes
  pub whole : p.n ≡ 8 * w p
  unfolding width
  whole = each (λ (q : Set). q.n ≡ 8 * w q) refl refl refl h

  -- and its words
  pub words : Words (w p)
  unfolding width
  words =
      each (λ (q : Set). Words (w q))
      (record { whole = refl; least = omega arith; most = omega arith })
      (record { whole = refl; least = omega arith; most = omega arith })
      (record { whole = refl; least = omega arith; most = omega arith })
      h

  -- its S-boxes lie in one word
  pub in_word : InWord p.s
  in_word =
      each (λ (q : Set). InWord q.s)
      (record { some = omega arith; fits = omega arith })
      (record { some = omega arith; fits = omega arith })
      (record { some = omega arith; fits = omega arith })
      h

-- ---- places

-- a row of w bytes ends where the next begins
pub row_end : (g w : ℕ) → g * w + w ≡ (g + 1) * w
row_end g w = sym (add-mul g 1 w ∙ ap (λ (k : ℕ). g * w + k) (one-mul w))

-- and lies in bytes that hold more rows
pub row_room : (g h w : ℕ) → g < h → g * w + w ≤ h * w
row_room g h w l = rw (row_end g w) (mul-le-mul_right {m = g + 1} {n = h} w (omega arith))

-- a matrix lies in a table that holds more
pub matrix-room : (k r n w : ℕ) → k < r → (k + 1) * n * w ≤ r * n * w
matrix-room k r n w l =
    mul-le-mul_right {m = (k + 1) * n} {n = r * n} w (mul-le-mul_right {m = k + 1} {n = r} n (omega arith))

-- lent tables hold matrix k
module _ (t : Tables) (k : ℕ) where
  pub key_room : k ≤ t.set.r → (k + 1) * t.set.n * w t.set ≤ length t.keys.now
  key_room l = omega (arith, t.lent.keys_length, matrix-room k (t.set.r + 1) t.set.n (w t.set) (omega arith))

  pub layer_room : k < t.set.r → (k + 1) * t.set.n * w t.set ≤ length t.layers.now
  layer_room l = omega (arith, t.lent.layers-length, matrix-room k t.set.r t.set.n (w t.set) l)

-- ---- lent parts, at the width x that the code computes

-- piece i of pieces of n bytes has n bytes
pub length_piece : (l : Bytes) (i n : ℕ) → (i + 1) * n ≤ length l → length (part l (i * n) n) ≡ n
length_piece l i n h = length-take-le n (drop (i * n) l) (omega (arith, length-drop (i * n) l, row_end i n))

-- matrix k of a table
module _ {p : Set} (h : IsSet p) (x : ℕ) (e : x ≡ w p) (k : ℕ) (l : Bytes) (room : (k + 1) * p.n * w p ≤ length l) where
  pub matrix_in : (k + 1) * (p.n * x) ≤ length l
  matrix_in = rw (e, ← mul_assoc (k + 1) p.n (w p)) room

  pub rows_in : (m : Bytes) → m ≡ part l (k * (p.n * x)) (p.n * x) → Words x × (length m ≡ 8 * x * x)
  rows_in m q =
      let n : p.n ≡ 8 * x = whole h ∙ ap (λ (y : ℕ). 8 * y) (sym e) in
      (rw e (words h), ap length q ∙ length_piece l k (p.n * x) matrix_in ∙ ap (λ (y : ℕ). y * x) n)

  -- the product that is computed of it
  pub product_of : (m : Bytes) → m ≡ part l (k * (p.n * x)) (p.n * x) → (v r : Bits) → r ≡ product (8 * x) (row x m) v → r ≡ product p.n (matrix_of p.n l k) v
  unfolding matrix_of matrix
  product_of m q v r is =
      is ∙ (ap (λ (s : Bytes). product (8 * x) (row x s) v) q
      ∙ ap (λ (y : ℕ). product (8 * y) (row y (part l (k * (p.n * y)) (p.n * y))) v) e
      ∙ ap₂ (λ (a b : ℕ). product a (row (w p) (part l b (p.n * w p))) v) (sym (whole h)) (sym (mul_assoc k p.n (w p))))

-- constant i
module _ {p : Set} (h : IsSet p) (x : ℕ) (e : x ≡ w p) (i : ℕ) (l : Bytes) (long : length l ≡ constants_length p) (less : i < p.r) where
  pub constant_in : (i + 1) * x ≤ length l
  constant_in = rw (e, long) (mul-le-mul_right {m = i + 1} {n = p.r} (w p) (omega arith))

  pub constant_small : (s : Bytes) → s ≡ part l (i * x) x → length s ≤ 32
  constant_small s q = omega (arith, ap length q, length_piece l i x constant_in, (words h).most)

  -- what is loaded of it
  pub constant_of_lem : (s : Bytes) → s ≡ part l (i * x) x → (r : Bits) → r ≡ bits_of s → r ≡ constant_of p.n l i
  unfolding constant_of row
  constant_of_lem s q r is = is ∙ ap bits_of q ∙ ap (λ (y : ℕ). bits_of (part l (i * y) y)) e

-- a constant has n bits
pub constant_past : {p : Set} (h : IsSet p) (l : Bytes) (k i : ℕ) → p.n ≤ i → constant_of p.n l k i ≡ false
unfolding constant_of row
constant_past {p} h l k i b = bits_past _ i (omega (arith, whole h, length-take (w p) (drop (k * w p) l)))

-- a block is short enough to load
pub block_small : {p : Set} (h : IsSet p) (l : Bytes) → length l ≡ w p → length l ≤ 32
block_small h l e = omega (arith, (words h).most)

-- and its place in an output short enough to store
pub output-small : {p : Set} (h : IsSet p) (x : ℕ) (l : Bytes) → x ≡ w p → length (take (x - 0) l) ≤ 32
output-small h x l e = omega (arith, length-take (x - 0) l, (words h).most)
