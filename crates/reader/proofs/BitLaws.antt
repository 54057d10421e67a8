-- The bit at a position that has one.
use mathlib.Core.Path.{◌≡◌, sym, ap, ap₂, ◌∙◌}
use mathlib.Core.Bool.{Bool, true, cond}
use Prim.Native.Nat.{ℕ, ◌-◌, ◌/◌, ◌%◌}
use lib.ListN.{get_or}
use Rattle.std.specs.Prelude.{Some, None}
use Rattle.slices.specs.Slices.{Bytes}
use Rattle.bits.specs.Bytes.{bit, bits_of}
use Rattle.reader.specs.Reading.{within, next_bit}

-- it is bit y of byte x
pub found : (s : Bytes) (at x y : ℕ) → within s at ≡ true → x ≡ at / 8 → y ≡ 7 - at % 8 → Some (bit (get_or s x 0) y) ≡ next_bit s at
unfolding bits_of
found s at x y t h k = ap₂ (λ (i j : ℕ). Some (bit (get_or s i 0) j)) h k ∙ sym (ap (λ (c : Bool). cond c (Some (bits_of s at)) None) t)
