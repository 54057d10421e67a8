-- Rows of gates as the bytes of a transcript, and back.
use mathlib.Core.Path.{◌≡◌, ap, ◌∙◌}
use mathlib.Core.Logic.{⊎_elim}
use Prim.Native.Nat.{ℕ, zero, suc, ◌+◌, ◌*◌, ◌/◌, ◌%◌, ◌<◌, ◌≤◌}
use native.Mathlib.Nat.{mul_comm, mul-le-mul_right, suc-mul, zero-mul, mod-lt, le-div_iff_mul-le}
use native.Mathlib.Omega.{arith}
use Rattle.slices.specs.Slices.{Bytes}
use Rattle.bits.specs.Bits.{Bits, Agree}
use Rattle.bits.specs.Bytes.{bits_of, bytes_of}
use Rattle.bits.specs.Rows.{Rows, cut, flat}
use Rattle.bits.proofs.BitsLaws.{up_to_in}
use Rattle.bits.proofs.NumberLaws.{below}
use Rattle.bits.proofs.BytesLaws.{bits_of_bytes_of, bytes_of_cong}
use Rattle.bits.proofs.RowsLaws.{flat_at}

-- a gate's place is within the gates of r rows
inside : (m r i j : ℕ) → i < r → j < m → i * m + j < m * r
inside m r i j h l =
    let q : suc i * m ≤ r * m = mul-le-mul_right m h in
    omega (arith, suc-mul i m, mul_comm r m)

-- rows that are read from the bytes of rows
pub rows_of_bytes : (m r : ℕ) (t : Rows) (s : Bytes) → s ≡ bytes_of (m * r) (flat m t) → (i : ℕ) → i < r → Agree m (cut m (bits_of s) i) (t i)
unfolding cut
rows_of_bytes m r t s e i h j l =
    up_to_in m _ j l
    ∙ (ap (λ (f : Bits). f (i * m + j)) (ap bits_of e ∙ bits_of_bytes_of (m * r) (flat m t))
    ∙ (up_to_in (m * r) (flat m t) (i * m + j) (inside m r i j h l) ∙ flat_at m t i j l))

-- rows that agree have the same bytes
pub bytes_of_rows : (m r : ℕ) (t u : Rows) → ((i : ℕ) → i < r → Agree m (t i) (u i)) → bytes_of (m * r) (flat m t) ≡ bytes_of (m * r) (flat m u)
unfolding flat
bytes_of_rows zero r t u h = bytes_of_cong (zero * r) _ _ (λ g l. absurd (omega (arith, zero-mul r)))
bytes_of_rows (suc m) r t u h = bytes_of_cong (suc m * r) _ _ (λ g l. h (g / suc m) (less g l) (g % suc m) (mod-lt g (omega arith)))
  where
    less : (g : ℕ) → g < suc m * r → g / suc m < r
    less g l =
        ⊎_elim (λ (b : g / suc m < r). b)
        (λ (b : r ≤ g / suc m). absurd (omega (arith, mul_comm (suc m) r, (le-div_iff_mul-le {k = suc m} (omega arith)).0 b)))
        (below (g / suc m) r)
