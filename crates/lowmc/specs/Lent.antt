-- The lent bytes of a set as matrices and round constants, and their lengths.
use Rattle.std.specs.Prelude.{◌≡◌, ℕ, ◌*◌, length}
use Rattle.slices.specs.Slices.{Bytes, part}
use Rattle.bits.specs.Bits.{Bits}
use Rattle.bits.specs.Bytes.{bits_of, width}
use Rattle.sets.specs.declared.Set.{Set}
use Rattle.sets.specs.Sets.{IsSet}
use Rattle.sets.specs.Lengths.{keys_length, layers_length, constants_length}
use Rattle.circuit.specs.Matrices.{Matrix}
use Rattle.circuit.specs.Lowmc.{Cipher}

-- row i of bytes that lie row by row, w bytes a row
unfoldable pub row : ℕ → Bytes → ℕ → Bits
row w l i = bits_of (part l (i * w) w)

-- a matrix of n·w bytes, row by row: row i, bit j of it
unfoldable pub matrix : ℕ → Bytes → Matrix
matrix n l i j = row (width n) l i j

-- matrix k of a table, n·w bytes a matrix
unfoldable pub matrix_of : ℕ → Bytes → ℕ → Matrix
matrix_of n l k = matrix n (part l (k * n * width n) (n * width n))

-- constant k of a table, w bytes a constant
unfoldable pub constant_of : ℕ → Bytes → ℕ → Bits
constant_of n l k = row (width n) l k

-- LowMC of a set over its lent tables
abbrev pub cipher_of : Set → (keys layers constants : Bytes) → Cipher
cipher_of set keys layers constants = record {
  n = set.n;
  s = set.s;
  r = set.r;
  Kmatrix = matrix_of set.n keys;
  Lmatrix = matrix_of set.n layers;
  roundconstant = constant_of set.n constants;
}

-- the lent tables of a set have exactly their lengths
pub record Lent (set : Set) (keys layers constants : Bytes) : Type 0 where
  pub is_set : IsSet set
  pub keys_length : length keys ≡ keys_length set
  pub layers-length : length layers ≡ layers_length set
  pub constants-length : length constants ≡ constants_length set
