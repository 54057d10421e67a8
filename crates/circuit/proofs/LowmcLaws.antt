-- Laws of LowMC: a layer of S-boxes place by place, what it asks for, and the states of an encryption.
use mathlib.Core.Path.{◌≡◌, refl, sym, ap, ap₂, ◌∙◌, subst⁻¹}
use mathlib.Core.Bool.{Bool, true, false, ◌&&◌, cond}
use Prim.Native.Nat.{ℕ, zero, suc, ◌+◌, ◌*◌, ◌/◌, ◌%◌, ◌≤◌, ◌<◌}
use native.Mathlib.Omega.{arith}
use native.Mathlib.Numerals.{add-one}
use lib.Dec.{ltb, ltb→lt, T}
use borrow.Author.Tests.{lt-ltb, le-ltb}
use Rattle.bits.specs.Bits.{◌⊻◌, Bits, Agree}
use Rattle.bits.proofs.BitsLaws.{xor_false, ⊕_at}
use Rattle.circuit.specs.Lowmc.{Cipher, Three, sbox, three_at, in_three, placed, sboxes, start, step, state_after, encryption}
use Rattle.circuit.proofs.MatricesLaws.{product_past, product_cong}

-- ---- places in threes

-- what holds at each place of each three holds everywhere
pub by_place : (P : ℕ → Type 0) → ((q : ℕ) → P (3 * q)) → ((q : ℕ) → P (3 * q + 1)) → ((q : ℕ) → P (3 * q + 2)) → (i : ℕ) → P i
by_place P at0 at1 at2 i = go (i % 3) refl
  where
    go : (k : ℕ) → i % 3 ≡ k → P i
    go zero e = let f : i ≡ 3 * (i / 3) = omega arith in subst⁻¹ P f (at0 (i / 3))
    go (suc zero) e = let f : i ≡ 3 * (i / 3) + 1 = omega arith in subst⁻¹ P f (at1 (i / 3))
    go (suc (suc zero)) e = let f : i ≡ 3 * (i / 3) + 2 = omega arith in subst⁻¹ P f (at2 (i / 3))
    go (suc (suc (suc k))) e = absurd (omega arith)

pub group : (q k : ℕ) → k < 3 → ((3 * q + k) / 3 ≡ q) × ((3 * q + k) % 3 ≡ k)
group q k h = omega arith

pub group0 : (q : ℕ) → (3 * q / 3 ≡ q) × (3 * q % 3 ≡ 0)
group0 q = omega arith

-- a bit is in its place of its three
pub three_at_lem : (x : Bits) (i : ℕ) → x i ≡ placed (three_at x (3 * (i / 3))) (i % 3)
unfolding in_three
three_at_lem x = by_place (λ i. x i ≡ placed (three_at x (3 * (i / 3))) (i % 3))
    (λ q. rw ((group0 q).0, (group0 q).1))
    (λ q. rw ((group q 1 (omega arith)).0, (group q 1 (omega arith)).1))
    (λ q. rw ((group q 2 (omega arith)).0, (group q 2 (omega arith)).1))

pub in_three_xor : (x y z x' y' z' : Bool) (i : ℕ) → in_three (x ⊻ x') (y ⊻ y') (z ⊻ z') i ≡ in_three x y z i ⊻ in_three x' y' z' i
unfolding in_three
in_three_xor x y z x' y' z' zero = refl
in_three_xor x y z x' y' z' (suc zero) = refl
in_three_xor x y z x' y' z' (suc (suc i)) = refl

-- three bits that agree are the same three
pub three_at_cong : (s : ℕ) (x y : Bits) → Agree (3 * s) x y → (i : ℕ) → i < 3 * s → three_at x (3 * (i / 3)) ≡ three_at y (3 * (i / 3))
three_at_cong s x y h i l =
    let a = h (3 * (i / 3) + 2) (omega arith) in
    let b = h (3 * (i / 3) + 1) (omega arith) in
    let c = h (3 * (i / 3)) (omega arith) in
    λ k. record { a = a k; b = b k; c = c k }

-- ---- a layer of S-boxes

-- below 3s, by c, b, a of the three
pub sboxes_in : (s : ℕ) (x : Bits) (i : ℕ) → i < 3 * s
    → sboxes s x i
    ≡ in_three
    (x (3 * (i / 3) + 2) ⊻ x (3 * (i / 3) + 1) ⊻ x (3 * (i / 3)) ⊻ (x (3 * (i / 3) + 2) && x (3 * (i / 3) + 1)))
    (x (3 * (i / 3) + 2) ⊻ x (3 * (i / 3) + 1) ⊻ (x (3 * (i / 3)) && x (3 * (i / 3) + 2)))
    (x (3 * (i / 3) + 2) ⊻ (x (3 * (i / 3) + 1) && x (3 * (i / 3))))
    (i % 3)
unfolding sboxes sbox
sboxes_in s x i h = rw (lt-ltb i (3 * s) h)

pub sboxes_past : (s : ℕ) (x : Bits) (i : ℕ) → 3 * s ≤ i → sboxes s x i ≡ x i
unfolding sboxes
sboxes_past s x i h = rw (le-ltb i (3 * s) h)

-- a layer asks for the first n bits to give the first n
pub sboxes_cong : (s n : ℕ) (x y : Bits) → 3 * s ≤ n → Agree n x y → Agree n (sboxes s x) (sboxes s y)
unfolding sboxes
sboxes_cong s n x y w h i m = go (ltb i (3 * s)) refl
  where
    go : (b : Bool) → ltb i (3 * s) ≡ b
        → cond b (placed (sbox (three_at x (3 * (i / 3)))) (i % 3)) (x i) ≡ cond b (placed (sbox (three_at y (3 * (i / 3)))) (i % 3)) (y i)
    go false e = h i m
    go true e =
        ap (λ (t : Three). placed (sbox t) (i % 3)) (three_at_cong s x y (λ j l. h j (omega arith)) i (ltb→lt i (3 * s) (subst⁻¹ T e tt)))

-- ---- the states of an encryption

module _ (C : Cipher) (key p : Bits) where
  pub state-none : (x : Bits) → x ≡ start C key p → x ≡ state_after C key p 0
  unfolding state_after
  state-none x e = e

  pub state-more : (i : ℕ) (x y : Bits) → x ≡ state_after C key p i → y ≡ step C key i x → y ≡ state_after C key p (i + 1)
  unfolding state_after
  state-more i x y e d = d ∙ (ap (step C key i) e ∙ ap (state_after C key p) (sym (add-one i)))

  pub state-last : (i : ℕ) (x : Bits) → i ≡ C.r → x ≡ state_after C key p i → x ≡ encryption C key p
  unfolding encryption
  state-last i x d e = e ∙ ap (state_after C key p) d

  -- where constants and block are zero from n on, so is the encryption
  module _ (constants : (k i : ℕ) → C.n ≤ i → C.roundconstant k i ≡ false) (block : (i : ℕ) → C.n ≤ i → p i ≡ false) where
    state_past : (k i : ℕ) → C.n ≤ i → state_after C key p k i ≡ false
    unfolding state_after start step
    state_past zero i h = ⊕_at _ p i ∙ ap₂ ◌⊻◌ (product_past C.n (C.Kmatrix 0) key i h) (block i h) ∙ xor_false false
    state_past (suc k) i h =
        ⊕_at _ _ i ∙ ap₂ ◌⊻◌ (product_past C.n (C.Lmatrix k) _ i h)
        (⊕_at _ _ i ∙ ap₂ ◌⊻◌ (constants k i h) (product_past C.n (C.Kmatrix (k + 1)) key i h) ∙ xor_false false)
        ∙ xor_false false

    pub encryption_past : (i : ℕ) → C.n ≤ i → encryption C key p i ≡ false
    unfolding encryption
    encryption_past = state_past C.r

-- an encryption asks for the first n bits of the key alone
module _ (C : Cipher) (key key' p : Bits) (h : Agree C.n key key') where
  state_cong : (i : ℕ) → state_after C key p i ≡ state_after C key' p i
  unfolding state_after start step
  state_cong zero = rw (product_cong C.n (C.Kmatrix 0) key key' h)
  state_cong (suc i) = rw (state_cong i, product_cong C.n (C.Kmatrix (i + 1)) key key' h)

  pub encryption_cong : encryption C key p ≡ encryption C key' p
  unfolding encryption
  encryption_cong = state_cong C.r
