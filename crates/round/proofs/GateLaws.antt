-- Laws of the gates of a layer on words.
use mathlib.Core.Path.{◌≡◌, ap, ◌∙◌}
use mathlib.Core.Bool.{Bool, ◌&&◌, cond}
use Prim.Native.Nat.{ℕ, ◌+◌, ◌*◌, ◌≤◌, ◌<◌}
use native.Mathlib.Omega.{arith}
use lib.Bits.{bit_xor, bit_and}
use Rattle.slices.specs.Slices.{Bytes}
use Rattle.bits.specs.Bits.{◌⊻◌, Bits, ◌⊕◌, up_to, zeros, Agree}
use Rattle.bits.specs.Words.{word_bits}
use Rattle.bits.proofs.BitsLaws.{xor_assoc, up_to_in, up_to_cong}
use Rattle.bits.proofs.WordsLaws.{holds_self, holds_and, holds_xor}
use Rattle.sets.specs.declared.Set.{Set}
use Rattle.circuit.specs.Matrices.{product}
use Rattle.circuit.specs.Gates.{left_factor, right_factor, sboxes_by}
use Rattle.circuit.specs.Lowmc.{Cipher}
use Rattle.circuit.specs.Round.{gate, gates, advance}
use Rattle.circuit.proofs.RoundLaws.{advance_cong}
use Rattle.lowmc.specs.Lent.{matrix_of, cipher_of}

-- a bit of a word that holds m bits
row_at : (m : ℕ) (f : Bits) (a : ℕ) → word_bits a ≡ up_to m f → (i : ℕ) → i < m → word_bits a i ≡ f i
row_at m f a e i h = ap (λ (g : Bits). g i) e ∙ up_to_in m f i h

xor_five : (p q r s t : Bool) → (((p ⊻ q) ⊻ r) ⊻ s) ⊻ t ≡ p ⊻ q ⊻ r ⊻ s ⊻ t
xor_five p q r s t = simp xor_assoc

-- the code's word of a row, from what its factors hold, cut to m places
pub row_of : (m : ℕ) (x y : Bits) (t u a b c d r : ℕ) → m ≤ 63
    → word_bits a ≡ up_to m (left_factor x) → word_bits b ≡ up_to m (right_factor x)
    → word_bits c ≡ up_to m (left_factor y) → word_bits d ≡ up_to m (right_factor y)
    → word_bits r ≡ up_to m (word_bits (bit_xor (bit_xor (bit_xor (bit_xor (bit_and a d) (bit_and c b)) (bit_and a b)) t) u))
    → word_bits r ≡ up_to m (gates x y (word_bits t) (word_bits u))
unfolding gates gate ◌⊕◌
row_of m x y t u a b c d r l ea eb ec ed er = er ∙ up_to_cong m _ (gates x y (word_bits t) (word_bits u)) bits
  where
    bits : Agree m (word_bits (bit_xor (bit_xor (bit_xor (bit_xor (bit_and a d) (bit_and c b)) (bit_and a b)) t) u)) (gates x y (word_bits t) (word_bits u))
    bits i h =
        let p = holds_and _ _ a d (holds_self a) (holds_self d) in
        let q = holds_and _ _ c b (holds_self c) (holds_self b) in
        let s = holds_and _ _ a b (holds_self a) (holds_self b) in
        let la = row_at m (left_factor x) a ea i h in
        let rb = row_at m (right_factor x) b eb i h in
        let lc = row_at m (left_factor y) c ec i h in
        let rd = row_at m (right_factor y) d ed i h in
        holds_xor _ _ _ _ (holds_xor _ _ _ _ (holds_xor _ _ _ _ (holds_xor _ _ _ _ p q) s) (holds_self t)) (holds_self u) i (omega arith)
        ∙ (xor_five _ _ _ _ _ ∙ (λ k. (la k && rd k) ⊻ (lc k && rb k) ⊻ (la k && rb k) ⊻ word_bits t i ⊻ word_bits u i))

-- a public block that goes into a share, or does not
pub into_of : (b : Bool) (c c' r : Bits) → c ≡ c' → r ≡ cond b c zeros → r ≡ cond b c' zeros
into_of b c c' r e h = h ∙ ap (λ (x : Bits). cond b x zeros) e

-- the code's sum of a round on a share
pub advance_of : (p : Set) (keys layers constants : Bytes) (i : ℕ) (share c c' x t y r : Bits) → c ≡ c' → y ≡ sboxes_by p.s x t
    → r ≡ product p.n (matrix_of p.n layers i) y ⊕ c ⊕ product p.n (matrix_of p.n keys (i + 1)) share
    → r ≡ advance (cipher_of p keys layers constants) i share c' x t
unfolding advance
advance_of p keys layers constants i share c c' x t y r ec ey er =
    er ∙ (λ k. product p.n (matrix_of p.n layers i) (ey k) ⊕ ec k ⊕ product p.n (matrix_of p.n keys (i + 1)) share)

-- a round by the word of a row of gates
pub advance-row : (C : Cipher) (i : ℕ) (share c x t : Bits) (g : ℕ) → word_bits g ≡ up_to (3 * C.s) t
    → advance C i share c x (word_bits g) ≡ advance C i share c x t
advance-row C i share c x t g e = advance_cong C i share c x (word_bits g) t (row_at (3 * C.s) t g e)
