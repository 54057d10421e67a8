-- The two calls over LowMC: the encryption of a block, and the public key of a secret key and a plaintext block.
use Rattle.std.specs.Prelude.{List, [], ◌∷◌, ℕ, length, Option}
use Rattle.slices.specs.Slices.{Bytes}
use Rattle.sets.specs.declared.Set.{Set}
use Rattle.sets.specs.Sets.{numbered}
use Rattle.sets.specs.Lengths.{w, public_length}
use Rattle.answers.specs.declared.Refusal.TheVariants.{Table, Key, Room}
use Rattle.answers.specs.Answers.{Check, when}
use Rattle.answers.specs.Conditions.{tables_other, blocks_other, too_short}
use Rattle.answers.specs.Outcome.{Outcome, unless, with_set, Promise}
use Rattle.lowmc.specs.Encrypted.{encrypted, public_key}

-- 2, 3 and 6, of the lengths: an output must hold what is wanted
unfoldable pub lowmc_checks : Set → (keys layers constants secret block wanted output : ℕ) → List Check
lowmc_checks set keys layers constants secret block wanted output =
    when (tables_other set keys layers constants) Table
    ∷ when (blocks_other set secret block) Key
    ∷ when (too_short wanted output) Room
    ∷ []

module _ (c : Option Set) (keys layers constants secret p : Bytes) (n : ℕ) where
  -- an output must hold w for an encryption
  unfoldable pub encrypt_outcome : Outcome
  encrypt_outcome =
      with_set c (λ set.
      unless (lowmc_checks set (length keys) (length layers) (length constants) (length secret) (length p) (w set) n)
      (encrypted set keys layers constants secret p))

  -- and 2w for a public key
  unfoldable pub public_key_outcome : Outcome
  public_key_outcome =
      with_set c (λ set.
      unless (lowmc_checks set (length keys) (length layers) (length constants) (length secret) (length p) (public_length set) n)
      (public_key set keys layers constants secret p))

module _ (set_number : ℕ) (keys layers constants secret p before : Bytes) where
  -- what picnic_encrypt promises: its answer, and its output from what it held before
  abbrev pub EncryptPromise : (back : ℕ) (after : Bytes) → Type 0
  EncryptPromise = Promise (encrypt_outcome (numbered set_number) keys layers constants secret p (length before)) before

  -- what picnic_public_key promises
  abbrev pub PublicKeyPromise : (back : ℕ) (after : Bytes) → Type 0
  PublicKeyPromise = Promise (public_key_outcome (numbered set_number) keys layers constants secret p (length before)) before
