-- Laws of rows that are written one after the other, and of states that are put.
use mathlib.Core.Path.{◌≡◌, ap, ◌∙◌, subst⁻¹}
use mathlib.Core.Logic.{⊎_elim}
use mathlib.Core.Bool.{false}
use mathlib.Core.List.{List}
use Prim.Native.Nat.{ℕ, ◌+◌, ◌≤◌, ◌<◌}
use native.Mathlib.Omega.{arith}
use lib.ListN.{length, get_or, set, replicate}
use lib.Seq.{get_or-set_same, get_or-set_other}
use Rattle.bits.specs.Bits.{Bits, up_to}
use Rattle.bits.specs.Words.{word_bits, block_bits}
use Rattle.bits.specs.declared.Block.{Block}
use Rattle.bits.specs.Rows.{Rows, rows_of}
use Rattle.bits.proofs.BitsLaws.{up_to_out}
use Rattle.bits.proofs.RowsLaws.{get_d_zeros}
use Rattle.bits.proofs.NumberLaws.{below}
use Rattle.bits.proofs.WordsLaws.{zero_bits}
use Rattle.circuit.specs.Round.{Party, party0, party1, party2}
use Rattle.lowmc.specs.Vectors.{at}
use Rattle.round.specs.Engine.{Written}

-- what holds of each party
pub three : (P : Party → Type 0) → P party0 → P party1 → P party2 → (j : Party) → P j
three P a b c party0 = a
three P a b c party1 = b
three P a b c party2 = c

-- what holds of place i, and of each other place
pub by_place : (i : ℕ) (P : ℕ → Type 0) → P i → ((k : ℕ) → (k ≡ i → ⊥) → P k) → (k : ℕ) → P k
by_place i P same other k =
    ⊎_elim (λ (l : k < i). other k (λ e. omega arith))
    (λ (l : i ≤ k).
    ⊎_elim (λ (g : k < i + 1). let e : k ≡ i = omega arith in subst⁻¹ P e same) (λ (g : i + 1 ≤ k). other k (λ e. omega arith)) (below k (i + 1)))
    (below k i)

-- ---- rows

-- no row is written
pub written_none : (m n : ℕ) (t : Rows) → Written m 0 t (replicate n 0)
unfolding rows_of
written_none m n t = record {
  rowed = record { narrow = λ k j l. ap (λ (x : ℕ). word_bits x j) (get_d_zeros n k) ∙ zero_bits j; few = λ k l. get_d_zeros n k };
  rows = λ k l. absurd (omega arith);
}

-- one row more
pub written-more : (m i : ℕ) (t : Rows) (ws : List ℕ) (y : ℕ) → i < length ws → word_bits y ≡ up_to m (t i)
    → Written m i t ws → Written m (i + 1) t (set ws i y)
unfolding rows_of
written-more m i t ws y l e w = record {
  rowed = record {
    narrow = by_place i (λ k. (j : ℕ) → m ≤ j → word_bits (get_or (set ws i y) k 0) j ≡ false)
        (λ j h. ap (λ (x : Bits). x j) (same ∙ e) ∙ up_to_out m (t i) j h)
        (λ k n j h. ap (λ (x : Bits). x j) (other k n) ∙ w.rowed.narrow k j h);
    few = λ k h. get_or-set_other ws i k y 0 (λ q. omega arith) ∙ w.rowed.few k (omega arith);
  };
  rows = by_place i (λ k. k < i + 1 → word_bits (get_or (set ws i y) k 0) ≡ up_to m (t k))
      (λ h. same ∙ e)
      (λ k n h. other k n ∙ w.rows k (less k n h));
}
  where
    same : word_bits (get_or (set ws i y) i 0) ≡ word_bits y
    same = ap word_bits (get_or-set_same ws i y 0 l)

    other : (k : ℕ) → (k ≡ i → ⊥) → word_bits (get_or (set ws i y) k 0) ≡ word_bits (get_or ws k 0)
    other k n = ap word_bits (get_or-set_other ws i k y 0 n)

    less : (k : ℕ) → (k ≡ i → ⊥) → k < i + 1 → k < i
    less k n h = ⊎_elim (λ (q : k < i). q) (λ (q : i ≤ k). absurd (n (omega arith))) (below k i)

-- the same rows of another string of rows
pub written_cong : (m n : ℕ) (t u : Rows) (ws : List ℕ) → ((i : ℕ) → i < n → t i ≡ u i) → Written m n t ws → Written m n u ws
written_cong m n t u ws h w = record { rowed = w.rowed; rows = λ i l. w.rows i l ∙ ap (up_to m) (h i l) }

-- ---- states

-- the first state, and one state more
pub one_state : (xs : List Block) (x : Block) (s : ℕ → Bits) → 0 < length xs → block_bits x ≡ s 0
    → (k : ℕ) → k ≤ 0 → block_bits (at (set xs 0 x) k) ≡ s k
one_state xs x s l e k h =
    let z : k ≡ 0 = omega arith in
    subst⁻¹ (λ (j : ℕ). block_bits (at (set xs 0 x) j) ≡ s j) z (ap block_bits (get_or-set_same xs 0 x _ l) ∙ e)

pub more_states : (i : ℕ) (xs : List Block) (x : Block) (s : ℕ → Bits) → i + 1 < length xs → block_bits x ≡ s (i + 1)
    → ((k : ℕ) → k ≤ i → block_bits (at xs k) ≡ s k) → (k : ℕ) → k ≤ i + 1 → block_bits (at (set xs (i + 1) x) k) ≡ s k
more_states i xs x s l e h =
    by_place (i + 1) (λ k. k ≤ i + 1 → block_bits (at (set xs (i + 1) x) k) ≡ s k)
    (λ q. ap block_bits (get_or-set_same xs (i + 1) x _ l) ∙ e)
    (λ k n q. ap block_bits (get_or-set_other xs (i + 1) k x _ n) ∙ h k (less k n q))
  where
    less : (k : ℕ) → (k ≡ i + 1 → ⊥) → k ≤ i + 1 → k ≤ i
    less k n l = ⊎_elim (λ (q : k < i + 1). omega arith) (λ (q : i + 1 ≤ k). absurd (n (omega arith))) (below k (i + 1))
