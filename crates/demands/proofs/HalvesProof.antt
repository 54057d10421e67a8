-- The two halves of every answer, each call's output being shorter than 2^32.
use Prim.Native.Nat.{ℕ, ◌≤◌}
use native.Mathlib.Omega.{arith}
use lib.ListN.{length}
use borrow.Author.Tests.{ltb-false}
use Rattle.slices.specs.Slices.{Bytes}
use Rattle.bits.specs.Bytes.{width}
use Rattle.sets.specs.declared.Set.{Set}
use Rattle.sets.specs.Sets.{IsSet, numbered}
use Rattle.sets.specs.Lengths.{w, seeds_length}
use Rattle.sets.proofs.Each.{most}
use Rattle.answers.specs.Conditions.{hash_most}
use Rattle.answers.proofs.AnswersLaws.{none-holds}
use Rattle.hashing.specs.Hashing.{h, kdf}
use Rattle.hashing.specs.HashCall.{hash_checks, hashed}
use Rattle.hashing.specs.SeedsCall.{seeded}
use Rattle.hashing.proofs.HashingLaws.{length-kdf, length_derived}
use Rattle.lowmc.specs.Calls.{encrypt_outcome, public_key_outcome}
use Rattle.lowmc.proofs.EncryptedLaws.{length-encrypted}
use Rattle.lowmc.proofs.CallsLaws as lowmc
use Rattle.challenge.specs.ChallengeCall.{challenge_checks, challenged}
use Rattle.challenge.proofs.BlocksLaws.{length-first}
use Rattle.shape.specs.Form.{values_in}
use Rattle.shape.specs.Reading.{reading, writing, read_into, write_into, read, write}
use Rattle.shape.proofs.ReadingLaws.{sound, whole}
use Rattle.shape.proofs.RoundsLaws.{signature-most}
use Rattle.shape.proofs.RoundTripsProof.{length-form, length-values_in, length-signature}
use Rattle.shape.proofs.SetFacts.{t≤, longest≤, unpacked≤}
use Rattle.demands.specs.Halves.{EveryAnswerHasHalves}
use Rattle.demands.proofs.SignHalves.{sign_halves, verify_halves}
use Rattle.demands.proofs.OutcomeHalves.{Small, outcome_halves, unless-small, behind-small, set_small}

-- ---- bounds over the sets

-- a block
width≤ : {p : Set} → IsSet p → w p ≤ 32
unfolding width
width≤ = most w 32 tt tt tt

-- seeds
seeds≤ : {p : Set} → IsSet p → seeds_length p ≤ 42080
unfolding width
seeds≤ = most seeds_length 42080 tt tt tt

-- ---- how much a call with one output writes

module _ (k : ℕ) where
  -- a hash: by its own check
  hash-small : (input : Bytes) (n : ℕ) → Small (hashed (numbered k) input n)
  unfolding hashed hash_checks
  hash-small input n =
      set_small k _ λ p q. unless-small (hash_checks n) (kdf p input n) λ f.
      omega (arith, ltb-false hash_most n (none-holds (hash_checks n) f).0, length-kdf q input n)

  -- seeds
  seeds-small : (secret public message : Bytes) (n : ℕ) → Small (seeded (numbered k) secret public message n)
  unfolding seeded
  seeds-small secret public message n =
      set_small k _ λ p q. unless-small _ _ λ f. omega (arith, length_derived q secret message public, seeds≤ q)

  module _ (keys layers constants secret block : Bytes) (n : ℕ) where
    -- an encryption
    encrypt-small : Small (encrypt_outcome (numbered k) keys layers constants secret block n)
    unfolding encrypt_outcome
    encrypt-small = set_small k _ λ p q. unless-small _ _ λ f. omega (arith, length-encrypted p keys layers constants secret block, width≤ q)

    -- a public key: the block's length is checked
    public_key_small : Small (public_key_outcome (numbered k) keys layers constants secret block n)
    unfolding public_key_outcome
    public_key_small =
        set_small k _ λ p q. unless-small _ _ λ f.
        let h = (lowmc.passed p _ _ _ _ (length block) _ n f).block_length in
        omega (arith, lowmc.length-public p keys layers constants secret block h, width≤ q)

  -- T values
  challenge-small : (input : Bytes) (limit n : ℕ) → Small (challenged (numbered k) input limit n)
  unfolding challenged challenge_checks
  challenge-small input limit n =
      set_small k _ λ p q. unless-small (challenge_checks p input limit n) _ λ f.
      omega (arith, length-first p (h p 1 input) limit (none-holds (challenge_checks p input limit n) f).1.1.0, t≤ q)

  -- an unpacked form
  read_small : (s : Bytes) (n : ℕ) → Small (read (numbered k) s n)
  unfolding read read_into reading
  read_small s n =
      set_small k _ λ p q. behind-small _ _ (unless-small _ _ λ f.
      omega (arith, length-form p s (sound p s f).exact, unpacked≤ q))

  -- a signature
  write-small : (x : Bytes) (n : ℕ) → Small (write (numbered k) x n)
  unfolding write write_into writing
  write-small x n =
      set_small k _ λ p q. behind-small _ _ (unless-small _ _ λ f.
      let e = (whole p x f).exact in
      omega (arith, length-signature p x e, signature-most p (values_in p x) (length-values_in p x e), longest≤ q))

pub every_answer_has_halves : EveryAnswerHasHalves
every_answer_has_halves =
    record {
      hash = λ k input before back after x. outcome_halves _ before back after x (hash-small k input (length before));
      seeds = λ k secret public message before back after x.
          outcome_halves _ before back after x (seeds-small k secret public message (length before));
      encrypt = λ k keys layers constants secret p before back after x.
          outcome_halves _ before back after x (encrypt-small k keys layers constants secret p (length before));
      public_key = λ k keys layers constants secret p before back after x.
          outcome_halves _ before back after x (public_key_small k keys layers constants secret p (length before));
      challenge = λ k input limit before back after x.
          outcome_halves _ before back after x (challenge-small k input limit (length before));
      read = λ k s before back after x. outcome_halves _ before back after x (read_small k s (length before));
      write = λ k x before back after y. outcome_halves _ before back after y (write-small k x (length before));
      sign = sign_halves;
      verify = verify_halves;
    }
