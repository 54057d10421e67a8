-- The call that hashes: it takes a set number for its SHAKE, adds no prefix and fills its whole output.
use Rattle.std.specs.Prelude.{List, [], ◌∷◌, ℕ, ltb, length, Option}
use Rattle.sets.specs.declared.Set.{Set}
use Rattle.slices.specs.Slices.{Bytes}
use Rattle.sets.specs.Sets.{numbered}
use Rattle.answers.specs.declared.Refusal.TheVariants.{Room}
use Rattle.answers.specs.Answers.{Check, when}
use Rattle.answers.specs.Conditions.{hash_most}
use Rattle.answers.specs.Outcome.{Outcome, unless, with_set, Promise}
use Rattle.hashing.specs.Hashing.{kdf}

-- 6: a hash output over 1,048,576 bytes
unfoldable pub hash_checks : ℕ → List Check
hash_checks n = when (ltb hash_most n) Room ∷ []

-- hashing refuses with 1 or 6 alone
unfoldable pub hashed : Option Set → Bytes → ℕ → Outcome
hashed c input n = with_set c (λ set. unless (hash_checks n) (kdf set input n))

-- what picnic_hash promises: its answer, and its output from what it held before
abbrev pub HashPromise : (set_number : ℕ) (input before : Bytes) (back : ℕ) (after : Bytes) → Type 0
HashPromise set_number input before = Promise (hashed (numbered set_number) input (length before)) before
