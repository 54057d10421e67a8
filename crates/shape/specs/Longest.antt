-- The longest signature: no signature is longer, and one is as long.
use Rattle.std.specs.Prelude.{◌≡◌, List, ℕ, ◌≤◌, ◌<◌, length, get_or}
use Rattle.slices.specs.Slices.{Bytes}
use Rattle.sets.specs.declared.Set.{Set}
use Rattle.sets.specs.Sets.{IsSet}
use Rattle.sets.specs.Lengths.{longest, unpacked_length}
use Rattle.answers.specs.Outcome.{gives}
use Rattle.shape.specs.Rounds.{signature_length}
use Rattle.shape.specs.Reading.{reading, writing}

pub record LongestIsLongest (set : Set) : Type 0 where
  -- of T values, whatever they are
  pub most : (es : List ℕ) → length es ≡ set.t → signature_length set es ≤ longest set
  -- of T values of which none is 0
  pub reached : (es : List ℕ) → length es ≡ set.t → ((k : ℕ) → k < set.t → ¬ (get_or es k 0 ≡ 0)) → signature_length set es ≡ longest set
  -- what is read is no longer, and neither is what is written; its form has just the length of an unpacked form
  pub read : (s x : Bytes) → reading set s ≡ gives x → (length s ≤ longest set) × (length x ≡ unpacked_length set)
  pub written : (x s : Bytes) → writing set x ≡ gives s → (length s ≤ longest set) × (length x ≡ unpacked_length set)

-- a signature that is written and as long as the longest
pub record Longest (set : Set) : Type 0 where
  pub form : Bytes
  pub bytes : Bytes
  pub writes : writing set form ≡ gives bytes
  pub long : length bytes ≡ longest set

-- each set has one
unfoldable pub LongestIsWritten : Type 0
LongestIsWritten = (set : Set) → IsSet set → Longest set
