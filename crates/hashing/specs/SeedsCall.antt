-- The call that derives seeds from a secret key, a message and a public key.
use Rattle.std.specs.Prelude.{List, [], ◌∷◌, ℕ, length, Option}
use Rattle.slices.specs.Slices.{Bytes}
use Rattle.sets.specs.declared.Set.{Set}
use Rattle.sets.specs.Sets.{numbered}
use Rattle.sets.specs.Lengths.{seeds_length}
use Rattle.answers.specs.declared.Refusal.TheVariants.{Key, Message, Room}
use Rattle.answers.specs.Answers.{Check, when}
use Rattle.answers.specs.Conditions.{keys_other, message_out, too_short}
use Rattle.answers.specs.Outcome.{Outcome, unless, with_set, Promise}
use Rattle.hashing.specs.Hashing.{derived_seeds}

-- 3, 4 and 6, of the lengths
unfoldable pub seeds_checks : Set → (secret public message output : ℕ) → List Check
seeds_checks set secret public message output =
    when (keys_other set secret public) Key
    ∷ when (message_out message) Message
    ∷ when (too_short (seeds_length set) output) Room
    ∷ []

-- an output must hold the seeds length
unfoldable pub seeded : Option Set → (secret public message : Bytes) → ℕ → Outcome
seeded c secret public message n =
    with_set c (λ set. unless (seeds_checks set (length secret) (length public) (length message) n) (derived_seeds set secret message public))

-- what picnic_seeds promises: its answer, and its output from what it held before
abbrev pub SeedsPromise : (set_number : ℕ) (secret public message before : Bytes) (back : ℕ) (after : Bytes) → Type 0
SeedsPromise set_number secret public message before = Promise (seeded (numbered set_number) secret public message (length before)) before
