-- The blocks that a challenge is read from, and the values that a number of blocks gives.
use Rattle.std.specs.Prelude.{◌≡◌, Bool, true, false, cond, ℕ, zero, suc, ◌≤◌, ◌<◌, ltb, length, take}
use Rattle.slices.specs.Slices.{Bytes, joined}
use Rattle.sets.specs.declared.Set.{Set}
use Rattle.hashing.specs.Hashing.{h}
use Rattle.challenge.specs.Pairs.{all_values}

-- block 1 is b, each later block is H_1 of the block before; here counted from 0
unfoldable pub chain : Set → Bytes → ℕ → Bytes
chain set b zero = b
chain set b (suc k) = h set 1 (chain set b k)

-- n blocks, the first of them b, one after the other
unfoldable pub stream : Set → Bytes → ℕ → Bytes
stream set b n = joined n (chain set b)

-- the values of n blocks, the first of them b
unfoldable pub stream_values : Set → Bytes → ℕ → Bytes
stream_values set b n = all_values (stream set b n)

-- 8: fewer than T values in n blocks
unfoldable pub too_few : Set → Bytes → ℕ → Bool
too_few set b n = ltb (length (stream_values set b n)) set.t

-- reading stops at the very pair that fills place T: the first T values of n blocks
unfoldable pub first_values : Set → Bytes → ℕ → Bytes
first_values set b n = take set.t (stream_values set b n)

-- how many blocks it takes to fill place T, where n blocks do; else n
unfoldable pub used : Set → Bytes → ℕ → ℕ
used set b zero = zero
used set b (suc n) = cond (too_few set b n) (suc n) (used set b n)

-- k blocks give T values, and fewer blocks do not
pub record Fewest (set : Set) (b : Bytes) (k : ℕ) : Type 0 where
  pub enough : too_few set b k ≡ false
  pub fewer : (i : ℕ) → i < k → too_few set b i ≡ true

-- where n blocks give T values, those used are the fewest that do
unfoldable pub UsedAreFewest : Type 0
UsedAreFewest = (set : Set) (b : Bytes) (n : ℕ) → too_few set b n ≡ false → (used set b n ≤ n) × Fewest set b (used set b n)
