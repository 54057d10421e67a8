-- Laws of a round's inputs in bytes: rows that are read, input shares, and transcripts as bytes.
use mathlib.Core.Path.{◌≡◌, ap, ◌∙◌}
use mathlib.Core.Logic.{⊎_elim}
use mathlib.Core.List.{List}
use Prim.Native.Nat.{ℕ, ◌+◌, ◌-◌, ◌*◌, ◌/◌, ◌%◌, ◌≤◌, ◌<◌}
use native.Mathlib.Omega.{arith}
use native.Mathlib.Nat.{mod-lt, mul_comm, zero-add, le-div_iff_mul-le}
use lib.ListN.{take, drop}
use Rattle.slices.specs.Slices.{Bytes}
use Rattle.bits.specs.Bits.{Bits, ◌⊕◌, up_to, from}
use Rattle.bits.specs.Bytes.{bits_of, bytes_of}
use Rattle.bits.specs.Rows.{Rows, cut, flat, rows_of}
use Rattle.bits.proofs.BitsLaws.{⊕-rules, up_to_in, up_to_cong}
use Rattle.bits.proofs.NumberLaws.{below}
use Rattle.bits.proofs.BytesLaws.{bits_of_part, bytes_of_cong}
use Rattle.bits.proofs.RowsLaws.{cut_in}
use Rattle.sets.specs.declared.Set.{Set}
use Rattle.sets.specs.Sets.{IsSet}
use Rattle.sets.proofs.Each.{each}
use Rattle.circuit.specs.Round.{Party, party0, party1, party2, next}
use Rattle.circuit.specs.RoundTheorems.{xor3}
use Rattle.circuit.specs.Tapes.{party_number, tape_rows}
use Rattle.round.specs.Engine.{Written}
use Rattle.round.specs.Inputs.{input_share, Taped}

-- ---- rows that are read

-- the first n rows of a string are rows of the whole
pub rows_of_lem : (m n : ℕ) (f : Bits) (t : Rows) → t ≡ cut m (up_to (n * m) f) → (i : ℕ) → i < n → t i ≡ cut m f i
unfolding cut
rows_of_lem m n f t e i h = ap (λ (u : Rows). u i) e ∙ cut_in m n i f h

-- the m bits from row i on are that row
pub row_of : (m at i : ℕ) (f x : Bits) → x ≡ up_to m (from (at + i * m) f) → x ≡ cut m (from at f) i
unfolding cut
row_of m at i f x e = e ∙ up_to_cong m _ _ (λ j b. ap f (omega arith))

module _ (p : Set) (k : ℕ) (tape : Bytes) (ws : List ℕ) where
  -- party 2's rows begin at bit 0
  pub taped_two : k ≡ 2 → ((i : ℕ) → i < p.r → rows_of ws i ≡ cut (3 * p.s) (from 0 (bits_of tape)) i) → (j : Party) → k ≡ party_number j → Taped p j tape ws
  unfolding tape_rows
  taped_two e h party0 q keys layers constants i l = absurd (omega arith)
  taped_two e h party1 q keys layers constants i l = absurd (omega arith)
  taped_two e h party2 q keys layers constants i l = h i l

  -- those of parties 0 and 1 at bit n
  pub taped_other : (k ≡ 2 → ⊥) → ((i : ℕ) → i < p.r → rows_of ws i ≡ cut (3 * p.s) (from p.n (bits_of tape)) i) → (j : Party) → k ≡ party_number j → Taped p j tape ws
  unfolding tape_rows
  taped_other e h party0 q keys layers constants i l = h i l
  taped_other e h party1 q keys layers constants i l = h i l
  taped_other e h party2 q keys layers constants i l = absurd (e q)

-- rows from bit 0 on are rows of the whole
pub from_start : (p : Set) (s : Bytes) (ws : List ℕ) → ((i : ℕ) → i < p.r → rows_of ws i ≡ cut (3 * p.s) (from 0 (bits_of s)) i)
    → (i : ℕ) → i < p.r → rows_of ws i ≡ cut (3 * p.s) (bits_of s) i
unfolding cut
from_start p s ws h i l = h i l ∙ up_to_cong (3 * p.s) _ _ (λ j b. ap (bits_of s) (zero-add (i * (3 * p.s) + j)))

-- the number of the next party
pub next-number : (k : ℕ) (j : Party) → k ≡ party_number j → (k + 1) % 3 ≡ party_number (next j)
next-number k party0 e = ap (λ (z : ℕ). (z + 1) % 3) e
next-number k party1 e = ap (λ (z : ℕ). (z + 1) % 3) e
next-number k party2 e = ap (λ (z : ℕ). (z + 1) % 3) e

-- ---- input shares

-- the first bytes of a tape, as many as the code's width x
pub share_of : (n x w : ℕ) (t : Bytes) (r : Bits) → x ≡ w → n ≡ 8 * w → r ≡ bits_of (take (x - 0) (drop 0 t)) → r ≡ up_to n (bits_of t)
share_of n x w t r e d h =
    let z : x - 0 ≡ w = omega arith in
    h ∙ (ap (λ (k : ℕ). bits_of (take k (drop 0 t))) z
    ∙ (bits_of_part t 0 w ∙ (ap (λ (k : ℕ). up_to k (from (8 * 0) (bits_of t))) (omega arith) ∙ up_to_cong n _ (bits_of t) (λ i l. ap (bits_of t) (omega arith)))))

-- the input shares XOR to the key
pub shares_xor : (n : ℕ) (sk : Bits) (t0 t1 : Bytes) (x : Party → Bits) → ((j : Party) → x j ≡ input_share n sk t0 t1 j) → xor3 x ≡ sk
unfolding xor3
shares_xor n sk t0 t1 x h =
    (λ k. h party0 k ⊕ h party1 k ⊕ h party2 k) ∙ simp ⊕-rules

-- ---- transcripts as bytes

-- the bytes of rows that are written
pub written-bytes : (m n : ℕ) (t : Rows) (ws : List ℕ) → 0 < m → Written m n t ws → bytes_of (n * m) (flat m (rows_of ws)) ≡ bytes_of (m * n) (flat m t)
unfolding flat
written-bytes m n t ws p w =
    bytes_of_cong (n * m) _ (flat m t) (λ g l.
    ap (λ (x : Bits). x (g % m)) (w.rows (g / m) (less g l)) ∙ up_to_in m (t (g / m)) (g % m) (mod-lt g p))
    ∙ ap (λ (k : ℕ). bytes_of k (flat m t)) (mul_comm n m)
  where
    less : (g : ℕ) → g < n * m → g / m < n
    less g l = ⊎_elim (λ (h : g / m < n). h) (λ (h : n ≤ g / m). absurd (omega (arith, (le-div_iff_mul-le p).0 h))) (below (g / m) n)

-- ---- the numbers of a set

-- rows have 8 to 57 bits and are fewer than 40, together they have at most 1140 bits, and a block has at most 256
pub record Room (p : Set) : Type 0 where
  pub least : 8 ≤ 3 * p.s
  pub most : 3 * p.s ≤ 57
  pub rows : p.r < 40
  pub gates : p.r * (3 * p.s) ≤ 1140
  pub block : p.n ≤ 256

pub room : {p : Set} → IsSet p → Room p
room =
    each Room
    (record { least = omega arith; most = omega arith; rows = omega arith; gates = omega arith; block = omega arith })
    (record { least = omega arith; most = omega arith; rows = omega arith; gates = omega arith; block = omega arith })
    (record { least = omega arith; most = omega arith; rows = omega arith; gates = omega arith; block = omega arith })
