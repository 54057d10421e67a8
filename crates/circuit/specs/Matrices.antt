-- Matrices over bits, and the product of a matrix and a vector.
use Rattle.std.specs.Prelude.{Bool, ◌&&◌, ℕ}
use Rattle.bits.specs.Bits.{Bits, up_to, parity}

-- a matrix: its rows
abbrev pub Matrix : Type 0
Matrix = ℕ → Bits

-- the parity of row AND vector, over n bits
unfoldable pub row_parity : ℕ → (row x : Bits) → Bool
row_parity n row x = parity n (λ j. row j && x j)

-- output bit i of a product, one of n, is the parity of row i AND the vector
unfoldable pub product : ℕ → Matrix → Bits → Bits
product n rows x = up_to n (λ i. row_parity n (rows i) x)
