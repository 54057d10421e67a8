-- The header of a signature: 2T bits, low bit of each value first as 02 has it (M-101), zero bits to the byte.
use Rattle.std.specs.Prelude.{Bool, List, [], ◌∷◌, ℕ, ◌+◌, ◌*◌, ◌/◌, ◌%◌, ◌<◌, ltb, get_or}
use Rattle.slices.specs.Slices.{Bytes, joined}
use Rattle.bits.specs.Bits.{Bits}
use Rattle.bits.specs.Bytes.{bit, bits_of, digit, bytes_of}
use Rattle.sets.specs.declared.Set.{Set}

-- where bit b of a value stands in its pair, and which bit stands at place b: the low bit first
unfoldable pub place : ℕ → ℕ
place b = b

-- the bits of values, two each
unfoldable pub pair_bits : List ℕ → Bits
pair_bits vs i = bit (get_or vs (i / 2) 0) (place (i % 2))

-- the header of the values vs
unfoldable pub header_of : Set → List ℕ → Bytes
header_of set vs = bytes_of (2 * set.t) (pair_bits vs)

-- value k of a header that starts s
unfoldable pub value_at : Bytes → ℕ → ℕ
value_at s k = 2 * digit (bits_of s (2 * k + place 1)) + digit (bits_of s (2 * k + place 0))

-- the T values of a header that starts s
unfoldable pub values : Set → Bytes → List ℕ
values set s = joined set.t (λ k. value_at s k ∷ [])

-- 0, 1 and 2 are values; the pair 11 is none
abbrev pub is_value : ℕ → Bool
is_value v = ltb v 3

-- values alone
abbrev pub AreValues : List ℕ → Type 0
AreValues vs = (k : ℕ) → get_or vs k 0 < 3
