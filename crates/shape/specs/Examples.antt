-- 01's examples of a signature's bytes, held against the definitions.
use Rattle.std.specs.Prelude.{◌≡◌, List, [], ◌∷◌, ◌++◌, ℕ, ◌+◌, take, replicate}
use Rattle.slices.specs.Slices.{Bytes}
use Rattle.sets.specs.declared.Set.{Set}
use Rattle.sets.specs.Sets.{IsSet, l1, l3}
use Rattle.answers.specs.declared.Refusal.TheVariants.{Length, Header, Padding}
use Rattle.answers.specs.Outcome.{refused, gives}
use Rattle.shape.specs.Header.{header_of}
use Rattle.shape.specs.Rounds.{signature_length}
use Rattle.shape.specs.Reading.{reading}

-- P12, as 02 has it: values 0, 1, 2, 0 start a header with byte 24 hex
unfoldable pub P12 : Type 0
P12 = (set : Set) → IsSet set → (vs : List ℕ) → take 1 (header_of set (0 ∷ 1 ∷ 2 ∷ 0 ∷ vs)) ≡ 0x24 ∷ []

-- set 1: a header whose last byte is b, and a salt
abbrev pub ending_in : ℕ → Bytes
ending_in b = replicate 54 0 ++ (b ∷ replicate 32 0)

-- set 1, last header byte: 04 hex is fine, so that of a header and a salt alone it is the length that is refused; 01 or 0C is
-- refused with 10
unfoldable pub LastHeaderByte : Type 0
LastHeaderByte =
    (reading l1 (ending_in 0x04) ≡ refused Length)
    × ((reading l1 (ending_in 0x01) ≡ refused Header) × (reading l1 (ending_in 0x0C) ≡ refused Header))

-- set 1 lengths: 30,528 if all values are 0; 30,544 if one is not
unfoldable pub LengthsOfSet1 : Type 0
LengthsOfSet1 =
    (signature_length l1 (replicate 219 0) ≡ 30528)
    × ((k j e : ℕ) → k + (1 + j) ≡ 219 → (e ≡ 0 → ⊥) → signature_length l1 (replicate k 0 ++ (e ∷ replicate j 0)) ≡ 30544)

-- 30,527 bytes with a zero header: 9
unfoldable pub OneByteShort : Type 0
OneByteShort = reading l1 (replicate 30527 0) ≡ refused Length

-- a byte after the last round: 9
unfoldable pub OneByteLong : Type 0
OneByteLong = reading l1 (replicate 30529 0) ≡ refused Length

-- 30,528 zero bytes are a signature, and its unpacked form is 34,196 zero bytes
unfoldable pub ZerosAreRead : Type 0
ZerosAreRead = reading l1 (replicate 30528 0) ≡ gives (replicate 34196 0)

-- set 2, last byte of the first transcript with a low bit set: 11
unfoldable pub LowBitOfTranscript : Type 0
LowBitOfTranscript = reading l3 (replicate 275 0 ++ (1 ∷ replicate 68600 0)) ≡ refused Padding
