-- The call that computes a challenge from an input and a block limit.
use Rattle.std.specs.Prelude.{List, [], ◌∷◌, ℕ, length, Option}
use Rattle.slices.specs.Slices.{Bytes}
use Rattle.sets.specs.declared.Set.{Set}
use Rattle.sets.specs.Sets.{numbered}
use Rattle.answers.specs.declared.Refusal.TheVariants.{Limit, Room, Blocks}
use Rattle.answers.specs.Answers.{Check, when}
use Rattle.answers.specs.Conditions.{limit_out, too_short}
use Rattle.answers.specs.Outcome.{Outcome, unless, with_set, Promise}
use Rattle.hashing.specs.Hashing.{h}
use Rattle.challenge.specs.Blocks.{too_few, first_values}

-- 5, 6 and 8: the limit, an output shorter than T, and the values of the allowed blocks
unfoldable pub challenge_checks : Set → (input : Bytes) (limit output : ℕ) → List Check
challenge_checks set input limit output =
    when (limit_out limit) Limit
    ∷ when (too_short set.t output) Room
    ∷ when (too_few set (h set 1 input) limit) Blocks
    ∷ []

-- the call writes T values, one a byte
unfoldable pub challenged : Option Set → (input : Bytes) (limit output : ℕ) → Outcome
challenged c input limit output =
    with_set c (λ set. unless (challenge_checks set input limit output) (first_values set (h set 1 input) limit))

-- what picnic_challenge promises: its answer, and its output from what it held before
abbrev pub ChallengePromise : (set_number : ℕ) (input : Bytes) (limit : ℕ) (before : Bytes) (back : ℕ) (after : Bytes) → Type 0
ChallengePromise set_number input limit before = Promise (challenged (numbered set_number) input limit (length before)) before
