-- The values of a byte string: its bits are read in pairs, in order, and a pair gives a value or nothing.
use Rattle.std.specs.Prelude.{cond, [], ◌∷◌, ℕ, ◌*◌, ltb, length}
use Rattle.slices.specs.Slices.{Bytes, joined}
use Rattle.bits.specs.Bits.{from}
use Rattle.bits.specs.Bytes.{bits_of, value}

-- pair j of a byte string: the number of bits 2j and 2j + 1
unfoldable pub pair : Bytes → ℕ → ℕ
pair l j = value 2 (from (2 * j) (bits_of l))

-- 00, 01, 10 give 0, 1, 2; 11 gives nothing
unfoldable pub value_of : ℕ → Bytes
value_of v = cond (ltb v 3) (v ∷ []) []

-- what the first k pairs give, in order
unfoldable pub values_to : ℕ → Bytes → Bytes
values_to k l = joined k (λ j. value_of (pair l j))

-- what all pairs give
unfoldable pub all_values : Bytes → Bytes
all_values l = values_to (4 * length l) l
