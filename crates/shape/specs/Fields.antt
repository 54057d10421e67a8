-- Fields of bits, one after the other: what stands behind the header of a signature. In a signature each field takes the
-- bytes that its bits need, with zero bits to the byte; in the unpacked form it has a slot, whose end may be blank.
use Rattle.std.specs.Prelude.{Bool, true, ◌&&◌, List, [], ◌∷◌, ◌++◌, ℕ, ◌+◌, ◌*◌, ◌-◌, eqb, take, drop, replicate}
use Rattle.slices.specs.Slices.{Bytes, part}
use Rattle.bits.specs.Bits.{from}
use Rattle.bits.specs.Bytes.{bits_of, value, width}

-- bits that carry something, and the zero bytes that follow them in the unpacked form
pub record Field : Type 0 where
  pub bits : ℕ
  pub blank : ℕ

-- bytes of a field in a signature
abbrev pub size : Field → ℕ
size f = width f.bits

-- bytes of a field in the unpacked form
abbrev pub slot : Field → ℕ
slot f = size f + f.blank

-- bytes of all fields in a signature
unfoldable pub sizes : List Field → ℕ
sizes [] = 0
sizes (f ∷ fs) = size f + sizes fs

-- from a signature to the unpacked form
unfoldable pub unpack : List Field → Bytes → Bytes
unpack [] s = []
unpack (f ∷ fs) s = take (size f) s ++ (replicate f.blank 0 ++ unpack fs (drop (size f) s))

-- from the unpacked form to a signature
unfoldable pub pack : List Field → Bytes → Bytes
pack [] x = []
pack (f ∷ fs) x = take (size f) x ++ pack fs (drop (slot f) x)

-- a test of each byte
unfoldable pub all : (ℕ → Bool) → Bytes → Bool
all q [] = true
all q (v ∷ vs) = q v && all q vs

-- a byte is zero
abbrev pub is_zero : ℕ → Bool
is_zero v = eqb v 0

-- the bits behind the first m, to the byte, are zero
unfoldable pub zero_padded : ℕ → Bytes → Bool
zero_padded m s = eqb (value (8 * width m - m) (from m (bits_of s))) 0

-- the padding of each field is zero, in a signature
unfoldable pub clean : List Field → Bytes → Bool
clean [] s = true
clean (f ∷ fs) s = zero_padded f.bits s && clean fs (drop (size f) s)

-- the padding of each field is zero, and what is blank, in the unpacked form
unfoldable pub clean_slots : List Field → Bytes → Bool
clean_slots [] x = true
clean_slots (f ∷ fs) x =
    zero_padded f.bits x && (all is_zero (part x (size f) f.blank) && clean_slots fs (drop (slot f) x))
