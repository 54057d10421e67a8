-- LowMC for any n, s and r, as "Bits and LowMC" of 01 has it. Nothing of a round of signing stands here.
use Rattle.std.specs.Prelude.{Bool, ◌&&◌, cond, ℕ, zero, suc, ◌+◌, ◌*◌, ◌/◌, ◌%◌, ltb}
use Rattle.bits.specs.Bits.{◌⊻◌, Bits, ◌⊕◌}
use Rattle.circuit.specs.Matrices.{Matrix, product}

-- the numbers n, s, r of a set, and its matrices and constants: how these lie in lent bytes is said elsewhere
pub record Cipher : Type 0 where
  pub n : ℕ
  pub s : ℕ
  pub r : ℕ
  pub Kmatrix : ℕ → Matrix
  pub Lmatrix : ℕ → Matrix
  pub roundconstant : ℕ → Bits

-- the three bits of an S-box
pub record Three : Type 0 where
  pub a : Bool
  pub b : Bool
  pub c : Bool

-- new a = a XOR bc; b = a XOR b XOR ca; c = a XOR b XOR c XOR ab
unfoldable pub sbox : Three → Three
sbox x = record {
  a = x.a ⊻ (x.b && x.c);
  b = x.a ⊻ x.b ⊻ (x.c && x.a);
  c = x.a ⊻ x.b ⊻ x.c ⊻ (x.a && x.b);
}

-- c, b, a at i, i+1, i+2
abbrev pub three_at : Bits → ℕ → Three
three_at x i = record { a = x (i + 2); b = x (i + 1); c = x i }

-- the bit at place 0, 1 or 2 of three
unfoldable pub in_three : (at0 at1 at2 : Bool) → ℕ → Bool
in_three x y z zero = x
in_three x y z (suc zero) = y
in_three x y z (suc (suc i)) = z

-- three bits in their places: c, b, a
abbrev pub placed : Three → ℕ → Bool
placed t = in_three t.c t.b t.a

-- the s S-boxes act on bits 0 to 3s-1 in threes; every other bit is kept
unfoldable pub sboxes : ℕ → Bits → Bits
sboxes s x i = cond (ltb i (3 * s)) (placed (sbox (three_at x (3 * (i / 3)))) (i % 3)) (x i)

module _ (L : Cipher) (key : Bits) where
  -- state = Kmatrix[0]·key XOR p
  unfoldable pub start : Bits → Bits
  start p = product L.n (L.Kmatrix 0) key ⊕ p

  -- round i+1: S-boxes, Lmatrix[i], roundconstant[i], and Kmatrix[i+1]·key
  unfoldable pub step : ℕ → Bits → Bits
  step i x = product L.n (L.Lmatrix i) (sboxes L.s x) ⊕ L.roundconstant i ⊕ product L.n (L.Kmatrix (i + 1)) key

  -- the state after i rounds
  unfoldable pub state_after : Bits → ℕ → Bits
  state_after p zero = start p
  state_after p (suc i) = step i (state_after p i)

  -- the encryption of p: the state after r rounds
  unfoldable pub encryption : Bits → Bits
  encryption p = state_after p L.r
