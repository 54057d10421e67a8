-- 01's examples, computed.
use mathlib.Core.Path.{◌≡◌, refl, ap}
use mathlib.Core.List.{[], ◌∷◌, ◌++◌}
use Prim.Native.Nat.{ℕ, zero, suc, ◌+◌, ◌*◌}
use native.Mathlib.Omega.{arith}
use lib.ListN.{take, replicate}
use Rattle.slices.specs.Slices.{joined}
use Rattle.bits.specs.Bits.{up_to}
use Rattle.bits.specs.Bytes.{odd, bit, bits_of, value, bytes, width, bytes_of}
use Rattle.sets.specs.declared.Set.{Set}
use Rattle.sets.specs.Sets.{l1}
use Rattle.sets.proofs.Each.{each}
use Rattle.answers.specs.Answers.{first}
use Rattle.answers.specs.Outcome.{unless}
use Rattle.shape.specs.Fields.{sizes, unpack, all, zero_padded, clean}
use Rattle.shape.specs.Header.{place, pair_bits, header_of, value_at, values}
use Rattle.shape.specs.Rounds.{round_fields, rounds_fields, signature_length}
use Rattle.shape.specs.Form.{form}
use Rattle.shape.specs.Reading.{header_wrong, padding_wrong, read_checks, reading}
use Rattle.shape.specs.Examples.{P12, LengthsOfSet1, LastHeaderByte, OneByteShort, OneByteLong, ZerosAreRead, LowBitOfTranscript}
use Rattle.shape.proofs.FieldLaws.{sizes-append}
use Rattle.shape.proofs.RoundsLaws.{sizes-other, rounds-append}

pub p12 : P12
unfolding P12 header_of bytes_of bytes joined up_to pair_bits place bit odd value width
p12 p q vs = each (λ (p : Set). take 1 (header_of p (0 ∷ 1 ∷ 2 ∷ 0 ∷ vs)) ≡ 0x24 ∷ []) refl refl refl q

pub last_header_byte : LastHeaderByte
unfolding LastHeaderByte odd bit bits_of value width joined all zero_padded place value_at values header_wrong read_checks reading first unless sizes rounds_fields round_fields
last_header_byte = (refl, (refl, refl))

zero_rounds : (k : ℕ) → sizes (rounds_fields l1 (replicate k 0)) ≡ k * 139
unfolding rounds_fields sizes round_fields width
zero_rounds zero = refl
zero_rounds (suc k) = omega (arith, sizes-append (rounds_fields l1 (replicate k 0)) (round_fields l1 0), zero_rounds k)

pub lengths_of_set_1 : LengthsOfSet1
unfolding LengthsOfSet1 rounds_fields sizes width
lengths_of_set_1 = (omega (arith, zero_rounds 219), one)
  where
    one : (k j e : ℕ) → k + (1 + j) ≡ 219 → (e ≡ 0 → ⊥) → signature_length l1 (replicate k 0 ++ (e ∷ replicate j 0)) ≡ 30544
    one k j e h z =
        omega (
          arith,
          ap sizes (rounds-append l1 (replicate k 0) (e ∷ replicate j 0)),
          sizes-append (rounds_fields l1 (e ∷ replicate j 0)) (rounds_fields l1 (replicate k 0)),
          sizes-append (rounds_fields l1 (replicate j 0)) (round_fields l1 e),
          sizes-other l1 e z,
          zero_rounds k,
          zero_rounds j,
        )

pub one_byte_short : OneByteShort
unfolding OneByteShort odd bit bits_of value width joined all zero_padded place value_at values header_wrong read_checks reading first unless sizes round_fields rounds_fields
one_byte_short = refl

pub one_byte_long : OneByteLong
unfolding OneByteLong odd bit bits_of value width joined all zero_padded place value_at values header_wrong read_checks reading first unless sizes round_fields rounds_fields
one_byte_long = refl

pub zeros_are_read : ZerosAreRead
unfolding ZerosAreRead odd bit bits_of value width joined all zero_padded place value_at values header_wrong read_checks reading first unless sizes round_fields rounds_fields padding_wrong clean form unpack
zeros_are_read = refl

pub low_bit_of_transcript : LowBitOfTranscript
unfolding LowBitOfTranscript odd bit bits_of value width joined all zero_padded place value_at values header_wrong read_checks reading first unless sizes round_fields rounds_fields padding_wrong clean
low_bit_of_transcript = refl
