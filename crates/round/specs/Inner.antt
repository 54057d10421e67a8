-- Cited by inner contracts alone: two parties' states, and the third's as what they lack of the encryption's.
use Rattle.std.specs.Prelude.{◌≡◌, ℕ}
use Rattle.bits.specs.Bits.{Bits, ◌⊕◌, zeros}
use Rattle.circuit.specs.Lowmc.{Cipher, start}
use Rattle.circuit.specs.Round.{Party, party0, party1, party2, advance}

-- the states y before the first round: x are the input shares, z the encryption's state
pub record Begun (L : Cipher) (p : Bits) (x : Party → Bits) (z : Bits) (y : Party → Bits) : Type 0 where
  pub first : y party0 ≡ start L (x party0) p
  pub second : y party1 ≡ start L (x party1) zeros
  pub third : y party2 ≡ z ⊕ y party0 ⊕ y party1

-- the states y after round i: s are those before, g the rows of gates, z the encryption's state after it
pub record Stepped (L : Cipher) (i : ℕ) (x s g : Party → Bits) (z : Bits) (y : Party → Bits) : Type 0 where
  pub first : y party0 ≡ advance L i (x party0) (L.roundconstant i) (s party0) (g party0)
  pub second : y party1 ≡ advance L i (x party1) zeros (s party1) (g party1)
  pub third : y party2 ≡ z ⊕ y party0 ⊕ y party1
