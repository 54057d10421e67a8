-- Laws of products: linear in the vector, and asking for its first n bits alone.
use mathlib.Core.Path.{◌≡◌, ap, ◌∙◌, fun_ext}
use mathlib.Core.Bool.{Bool, false, ◌&&◌}
use Prim.Native.Nat.{ℕ, ◌≤◌}
use lib.Dec.{ltb}
use Rattle.bits.specs.Bits.{◌⊻◌, Bits, ◌⊕◌, Agree, up_to}
use Rattle.bits.proofs.BitsLaws.{and_xor, parity_xor, parity_cong, up_to_out, up_to_cong}
use Rattle.circuit.specs.Matrices.{Matrix, row_parity, product}

pub row_parity_cong : (n : ℕ) (row row' x x' : Bits) → Agree n row row' → Agree n x x' → row_parity n row x ≡ row_parity n row' x'
unfolding row_parity
row_parity_cong n row row' x x' p q = parity_cong n _ _ (λ j h. λ k. p j h k && q j h k)

row_parity_xor : (n : ℕ) (row x y : Bits) → row_parity n row (x ⊕ y) ≡ row_parity n row x ⊻ row_parity n row y
unfolding row_parity ◌⊕◌
row_parity_xor n row x y = parity_cong n _ _ (λ j h. and_xor (row j) (x j) (y j)) ∙ parity_xor n (λ j. row j && x j) (λ j. row j && y j)

module _ (n : ℕ) (M : Matrix) where
  -- a product is linear
  pub product_xor : (x y : Bits) → product n M (x ⊕ y) ≡ product n M x ⊕ product n M y
  unfolding product up_to ◌⊕◌
  product_xor x y = fun_ext λ i.
      ap (λ (b : Bool). ltb i n && b) (row_parity_xor n (M i) x y) ∙ and_xor (ltb i n) (row_parity n (M i) x) (row_parity n (M i) y)

  -- it asks for the first n bits of the vector
  pub product_cong : (x y : Bits) → Agree n x y → product n M x ≡ product n M y
  unfolding product
  product_cong x y h = up_to_cong n _ _ (λ i l. row_parity_cong n (M i) (M i) x y (λ j q. λ k. M i j) h)

  -- and has n bits
  pub product_past : (x : Bits) (i : ℕ) → n ≤ i → product n M x i ≡ false
  unfolding product
  product_past x i h = up_to_out n _ i h
