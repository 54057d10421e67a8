-- Laws of the S-boxes with their gates apart: what they ask for, that they are linear, and that with the gates' own products they are LowMC's.
use mathlib.Core.Path.{◌≡◌, refl, ap, fun_ext, subst⁻¹}
use mathlib.Core.Bool.{Bool, true, false, ◌&&◌, cond}
use Prim.Native.Nat.{ℕ, ◌+◌, ◌*◌, ◌/◌, ◌%◌, ◌≤◌, ◌<◌}
use native.Mathlib.Omega.{arith}
use lib.Dec.{ltb, ltb→lt, T}
use borrow.Author.Tests.{lt-ltb, le-ltb}
use Rattle.bits.specs.Bits.{◌⊻◌, Bits, ◌⊕◌, Agree}
use Rattle.bits.proofs.BitsLaws.{xor-rules, ⊕_at}
use Rattle.circuit.specs.Lowmc.{Three, sbox, three_at, in_three, placed, sboxes}
use Rattle.circuit.specs.Gates.{left_factor, right_factor, sbox_by, sboxes_by}
use Rattle.circuit.proofs.LowmcLaws.{group, group0, in_three_xor, three_at_cong}

module _ (s : ℕ) (x y : Bits) (h : Agree (3 * s) x y) where
  pub left_cong : Agree (3 * s) (left_factor x) (left_factor y)
  unfolding left_factor
  left_cong i l = ap (λ (t : Three). in_three t.a t.b t.c (i % 3)) (three_at_cong s x y h i l)

  pub right_cong : Agree (3 * s) (right_factor x) (right_factor y)
  unfolding right_factor
  right_cong i l = ap (λ (t : Three). in_three t.b t.c t.a (i % 3)) (three_at_cong s x y h i l)

-- ---- a layer with given gates

-- by c, b, a of the three and its gates
sboxes_by_at : (s : ℕ) (x t : Bits) (i : ℕ)
    → sboxes_by s x t i
    ≡ cond (ltb i (3 * s))
    (in_three
    (x (3 * (i / 3) + 2) ⊻ x (3 * (i / 3) + 1) ⊻ x (3 * (i / 3)) ⊻ t (3 * (i / 3)))
    (x (3 * (i / 3) + 2) ⊻ x (3 * (i / 3) + 1) ⊻ t (3 * (i / 3) + 2))
    (x (3 * (i / 3) + 2) ⊻ t (3 * (i / 3) + 1))
    (i % 3))
    (x i)
unfolding sboxes_by sbox_by
sboxes_by_at s x t i = refl

pub sboxes_by_in : (s : ℕ) (x t : Bits) (i : ℕ) → i < 3 * s
    → sboxes_by s x t i
    ≡ in_three
    (x (3 * (i / 3) + 2) ⊻ x (3 * (i / 3) + 1) ⊻ x (3 * (i / 3)) ⊻ t (3 * (i / 3)))
    (x (3 * (i / 3) + 2) ⊻ x (3 * (i / 3) + 1) ⊻ t (3 * (i / 3) + 2))
    (x (3 * (i / 3) + 2) ⊻ t (3 * (i / 3) + 1))
    (i % 3)
sboxes_by_in s x t i h = rw (sboxes_by_at s x t i, lt-ltb i (3 * s) h)

pub sboxes_by_past : (s : ℕ) (x t : Bits) (i : ℕ) → 3 * s ≤ i → sboxes_by s x t i ≡ x i
unfolding sboxes_by
sboxes_by_past s x t i h = rw (le-ltb i (3 * s) h)

-- it asks for the first n bits of the state and for the first 3s gates
pub sboxes_by_cong : (s n : ℕ) (x y t u : Bits) → 3 * s ≤ n → Agree n x y → Agree (3 * s) t u → Agree n (sboxes_by s x t) (sboxes_by s y u)
unfolding sboxes_by
sboxes_by_cong s n x y t u w h g i m = go (ltb i (3 * s)) refl
  where
    go : (b : Bool) → ltb i (3 * s) ≡ b
        → cond b (placed (sbox_by (three_at x (3 * (i / 3))) (t (3 * (i / 3))) (t (3 * (i / 3) + 1)) (t (3 * (i / 3) + 2))) (i % 3)) (x i)
        ≡ cond b (placed (sbox_by (three_at y (3 * (i / 3))) (u (3 * (i / 3))) (u (3 * (i / 3) + 1)) (u (3 * (i / 3) + 2))) (i % 3)) (y i)
    go false e = h i m
    go true e =
        let l : i < 3 * s = ltb→lt i (3 * s) (subst⁻¹ T e tt) in
        let three = three_at_cong s x y (λ k q. h k (omega arith)) i l in
        let ab = g (3 * (i / 3)) (omega arith) in
        let bc = g (3 * (i / 3) + 1) (omega arith) in
        let ca = g (3 * (i / 3) + 2) (omega arith) in
        λ k. placed (sbox_by (three k) (ab k) (bc k) (ca k)) (i % 3)

-- ---- factors and layer are linear

module _ (x y : Bits) (i : ℕ) where
  pub left_xor : left_factor (x ⊕ y) i ≡ left_factor x i ⊻ left_factor y i
  unfolding left_factor ◌⊕◌
  left_xor = in_three_xor _ _ _ _ _ _ (i % 3)

  pub right_xor : right_factor (x ⊕ y) i ≡ right_factor x i ⊻ right_factor y i
  unfolding right_factor ◌⊕◌
  right_xor = in_three_xor _ _ _ _ _ _ (i % 3)

cond_xor : (b : Bool) (x y x' y' : Bool) → cond b (x ⊻ x') (y ⊻ y') ≡ cond b x y ⊻ cond b x' y'
cond_xor true x y x' y' = refl
cond_xor false x y x' y' = refl

pub sboxes_by_xor : (s : ℕ) (x y t u : Bits) → sboxes_by s (x ⊕ y) (t ⊕ u) ≡ sboxes_by s x t ⊕ sboxes_by s y u
sboxes_by_xor s x y t u = fun_ext λ i. simp (sboxes_by_at, ⊕_at, ← cond_xor, ← in_three_xor, xor-rules)

-- ---- LowMC's own layer is the one whose gates give their products

-- what each gate gives on whole bits
unfoldable pub products : Bits → Bits
products x g = left_factor x g && right_factor x g

products_are : (x : Bits) (i : ℕ)
    → (products x (3 * (i / 3)) ≡ (x (3 * (i / 3) + 2) && x (3 * (i / 3) + 1)))
    × (products x (3 * (i / 3) + 1) ≡ (x (3 * (i / 3) + 1) && x (3 * (i / 3))))
    × (products x (3 * (i / 3) + 2) ≡ (x (3 * (i / 3)) && x (3 * (i / 3) + 2)))
unfolding products left_factor right_factor in_three
products_are x i =
    let q = i / 3 in
    let d = group0 q in
    let e = group q 1 (omega arith) in
    let f = group q 2 (omega arith) in
    (rw (d.0, d.1), rw (e.0, e.1), rw (f.0, f.1))

pub sboxes_are : (s : ℕ) (x : Bits) → sboxes s x ≡ sboxes_by s x (products x)
unfolding sboxes sboxes_by sbox sbox_by
sboxes_are s x = fun_ext λ i. rw ((products_are x i).0, (products_are x i).1, (products_are x i).2)
