-- What a reader at a bit position finds: the next bit, or the next whole bytes, and where it stands behind them.
use Rattle.std.specs.Prelude.{Bool, cond, Option, Some, None, ℕ, ◌+◌, ◌*◌, ◌/◌, ◌%◌, ltb, leb, length}
use Rattle.slices.specs.Slices.{Bytes, part}
use Rattle.bits.specs.Bytes.{bits_of, digit, width}
use Rattle.reader.specs.declared.Position.{Position}
use Rattle.reader.specs.declared.Reader.{Reader}

-- the bit position that byte and bit say, whatever the two are
abbrev pub bit_number : Position → ℕ
bit_number at = 8 * at.byte + at.bit

-- byte and bit of a bit position
abbrev pub position : ℕ → Position
position at = record { byte = at / 8; bit = at % 8 }

-- there is a bit at a position
abbrev pub within : Bytes → ℕ → Bool
within s at = ltb (at / 8) (length s)

-- the bit at a position; at the end there is none
abbrev pub next_bit : Bytes → ℕ → Option Bool
next_bit s at = cond (within s at) (Some (bits_of s at)) None

-- the position behind that bit; at the end it stays
abbrev pub after_bit : Bytes → Position → Position
after_bit s at = cond (within s (bit_number at)) (position (bit_number at + 1)) at

-- n whole bytes follow a position: they start at the first whole byte that is not before it
abbrev pub follow : Bytes → ℕ → ℕ → Bool
follow s at n = leb (width at + n) (length s)

-- the bytes that follow, as many as out has; where fewer follow, out as it was
abbrev pub next_bytes : Bytes → ℕ → Bytes → Bytes
next_bytes s at out = cond (follow s at (length out)) (part s (width at) (length out)) out

-- the position behind those n bytes; where fewer follow it stays
abbrev pub after_bytes : Bytes → Position → ℕ → Position
after_bytes s at n = cond (follow s (bit_number at) n) (position (8 * (width (bit_number at) + n))) at

-- a bit as a number; the end counts as a zero bit
abbrev pub digit_of : Option Bool → ℕ
digit_of (Some b) = digit b
digit_of None = 0

-- a reader behind its next bit
abbrev pub past_bit : Reader → Reader
past_bit r = record { signature = r.signature; at = after_bit r.signature.now r.at }

-- a reader behind its next n bytes
abbrev pub past_bytes : Reader → ℕ → Reader
past_bytes r n = record { signature = r.signature; at = after_bytes r.signature.now r.at n }
