-- Padding as code tests it: the low bits of a field's last byte.
use mathlib.Core.Path.{◌≡◌, sym, ap, ◌∙◌}
use Prim.Native.Nat.{ℕ, ◌+◌, ◌*◌, ◌-◌, ◌/◌, ◌%◌, ◌^◌, ◌≤◌, ◌<◌}
use native.Mathlib.Omega.{arith}
use native.Mathlib.Nat.{mod-eq_of_lt}
use lib.Dec.{eqb}
use lib.Pow.{low, pow_mono}
use lib.ListN.{drop, get_or}
use lib.Seq.{get_or-drop}
use Rattle.slices.specs.Slices.{Bytes}
use Rattle.bits.specs.Bits.{from}
use Rattle.bits.specs.Bytes.{bits_of, value, width}
use Rattle.bits.proofs.NumberLaws.{value_lt, value_cong, value-add}
use Rattle.bits.proofs.BytesLaws.{byte_value}
use Rattle.shape.specs.Fields.{zero_padded}

-- the padding of m bits in n bytes is the last byte's remainder
pub padded_byte : (s : Bytes) (at m n : ℕ) → n ≡ (m + 7) / 8 → 0 < m → get_or s (at + (n - 1)) 0 < 256
    → eqb (get_or s (at + (n - 1)) 0 % 2 ^ (8 * n - m)) 0 ≡ zero_padded m (drop at s)
unfolding zero_padded width
padded_byte s at m n e h b =
    let k : ℕ = 8 * n - m in
    let y = drop at s in
    let g : get_or s (at + (n - 1)) 0 ≡ get_or y (n - 1) 0 = sym (get_or-drop at s (n - 1) 0) in
    let f = from (8 * (n - 1)) (bits_of y) in
    let j : 8 - k + k ≡ 8 = omega arith in
    let v : value 8 f ≡ value (8 - k) f * 2 ^ k + value k (from (8 - k) f) = ap (λ (i : ℕ). value i f) (sym j) ∙ value-add (8 - k) k f in
    let c : get_or y (n - 1) 0 ≡ value 8 f = byte_value y (n - 1) (rw (← g) b) in
    let p : value k (from (8 - k) f) ≡ value k (from m (bits_of y)) = value_cong k _ _ (λ i l. ap (bits_of y) (omega arith)) in
    let r : get_or s (at + (n - 1)) 0 % 2 ^ k ≡ value k (from m (bits_of y)) =
    ap (λ (i : ℕ). i % 2 ^ k) (g ∙ (c ∙ v)) ∙ (low (value (8 - k) f) k (value_lt k (from (8 - k) f)) ∙ p) in
    ap (λ (i : ℕ). eqb i 0) (r ∙ ap (λ (i : ℕ). value (8 * i - m) (from m (bits_of y))) e)

-- a byte has room for the padding's unit
pub unit : (m n : ℕ) → n ≡ (m + 7) / 8 → 1 * 2 ^ (8 * n - m) % 256 ≡ 2 ^ (8 * n - m)
unit m n e =
    let l : 2 ^ (8 * n - m) ≤ 2 ^ 7 = pow_mono {j = 7} (omega arith) in
    let g : 1 * 2 ^ (8 * n - m) ≡ 2 ^ (8 * n - m) = omega arith in
    rw g (mod-eq_of_lt (omega arith))
