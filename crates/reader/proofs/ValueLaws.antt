-- A value of a header, read as two bits one after the other.
use mathlib.Core.Path.{◌≡◌, refl, sym, ap, ap₂, ◌∙◌}
use mathlib.Core.Bool.{Bool, true, false, cond}
use Prim.Native.Nat.{ℕ, ◌+◌, ◌-◌, ◌*◌, ◌/◌, ◌%◌, ◌≤◌}
use native.Mathlib.Omega.{arith}
use lib.ListN.{length, get_or-eq_default}
use borrow.Author.Tests.{ltb-false}
use Rattle.slices.specs.Slices.{Bytes}
use Rattle.bits.specs.Bytes.{bit, bits_of, digit}
use Rattle.bits.proofs.NumberLaws.{bit_zero}
use Rattle.shape.specs.Header.{value_at, place}
use Rattle.reader.specs.declared.Position.{Position}
use Rattle.std.specs.Prelude.{Some, None}
use Rattle.reader.specs.Reading.{bit_number, position, within, next_bit, after_bit, digit_of}

-- where the value at place k starts
abbrev pub first : ℕ → Position
first k = record { byte = k / 4; bit = 2 * (k % 4) }

-- past the end all bits are zero
zero_past : (s : Bytes) (at : ℕ) → length s ≤ at / 8 → digit (bits_of s at) ≡ 0
unfolding bits_of
zero_past s at h = ap digit (ap (λ (x : ℕ). bit x (7 - at % 8)) (get_or-eq_default s 0 h) ∙ bit_zero (7 - at % 8))

-- so a bit is the digit that stands there, at the end too
digit_at : (s : Bytes) (at : ℕ) → digit_of (next_bit s at) ≡ digit (bits_of s at)
digit_at s at = go (within s at) refl where
  go : (b : Bool) → within s at ≡ b → digit_of (next_bit s at) ≡ digit (bits_of s at)
  go true e = ap (λ (b : Bool). digit_of (cond b (Some (bits_of s at)) None)) e
  go false e = ap (λ (b : Bool). digit_of (cond b (Some (bits_of s at)) None)) e ∙ sym (zero_past s at (ltb-false (at / 8) (length s) e))

-- and so is the bit behind it, whether the position moves on or stays
digit-behind : (s : Bytes) (k : ℕ) → digit (bits_of s (bit_number (after_bit s (first k)))) ≡ digit (bits_of s (2 * k + 1))
digit-behind s k = go (within s (bit_number (first k))) refl where
  moved : bit_number (position (bit_number (first k) + 1)) ≡ 2 * k + 1
  moved = omega arith

  go : (b : Bool) → within s (bit_number (first k)) ≡ b → digit (bits_of s (bit_number (after_bit s (first k)))) ≡ digit (bits_of s (2 * k + 1))
  go true e = ap (λ (b : Bool). digit (bits_of s (bit_number (cond b (position (bit_number (first k) + 1)) (first k))))) e ∙ ap (λ (i : ℕ). digit (bits_of s i)) moved
  go false e =
      let h : length s ≤ bit_number (first k) / 8 = ltb-false (bit_number (first k) / 8) (length s) e in
      let h' : length s ≤ (2 * k + 1) / 8 = omega (arith, h) in
      ap (λ (b : Bool). digit (bits_of s (bit_number (cond b (position (bit_number (first k) + 1)) (first k))))) e ∙ (zero_past s (bit_number (first k)) h ∙ sym (zero_past s (2 * k + 1) h'))

-- the two bits from there on make the value
pub two-bits : (s : Bytes) (k : ℕ) → digit_of (next_bit s (bit_number (first k))) + 2 * digit_of (next_bit s (bit_number (after_bit s (first k)))) ≡ value_at s k
unfolding value_at place
two-bits s k =
    ap₂ (λ (x y : ℕ). x + 2 * y) (digit_at s (bit_number (first k)) ∙ ap (λ (i : ℕ). digit (bits_of s i)) at_two) (digit_at s (bit_number (after_bit s (first k))) ∙ digit-behind s k)
    ∙ omega arith
  where
    at_two : bit_number (first k) ≡ 2 * k + 0
    at_two = omega arith
