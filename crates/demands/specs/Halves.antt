-- The two halves of every answer: above the refusal's number, below the bytes written, fewer than 2^32. And how many bytes signing
-- writes at most.
use Rattle.std.specs.Prelude.{◌≡◌, ℕ, ◌≤◌, length, Some}
use Rattle.slices.specs.Slices.{Bytes}
use Rattle.sets.specs.declared.Set.{Set}
use Rattle.sets.specs.Sets.{numbered}
use Rattle.sets.specs.Lengths.{longest}
use Rattle.answers.specs.Answers.{Halves}
use Rattle.answers.specs.Outcome.{Outcome, refusal_of, written_by}
use Rattle.hashing.specs.HashCall.{hashed, HashPromise}
use Rattle.hashing.specs.SeedsCall.{seeded, SeedsPromise}
use Rattle.lowmc.specs.Calls.{encrypt_outcome, public_key_outcome, EncryptPromise, PublicKeyPromise}
use Rattle.challenge.specs.ChallengeCall.{challenged, ChallengePromise}
use Rattle.shape.specs.Reading.{read, write, ReadPromise, WritePromise}
use Rattle.signer.specs.Sign as sign
use Rattle.verifier.specs.Verify as verify

-- a call with one output: its refusal, and the bytes that it gives
abbrev pub HalvesOf : Outcome → (back : ℕ) → Type 0
HalvesOf o back = Halves back (refusal_of o) (length (written_by o))

pub record EveryAnswerHasHalves : Type 0 where
  pub hash : (set_number : ℕ) (input before : Bytes) (back : ℕ) (after : Bytes)
      → HashPromise set_number input before back after → HalvesOf (hashed (numbered set_number) input (length before)) back
  pub seeds : (set_number : ℕ) (secret public message before : Bytes) (back : ℕ) (after : Bytes)
      → SeedsPromise set_number secret public message before back after
      → HalvesOf (seeded (numbered set_number) secret public message (length before)) back
  pub encrypt : (set_number : ℕ) (keys layers constants secret p before : Bytes) (back : ℕ) (after : Bytes)
      → EncryptPromise set_number keys layers constants secret p before back after
      → HalvesOf (encrypt_outcome (numbered set_number) keys layers constants secret p (length before)) back
  pub public_key : (set_number : ℕ) (keys layers constants secret p before : Bytes) (back : ℕ) (after : Bytes)
      → PublicKeyPromise set_number keys layers constants secret p before back after
      → HalvesOf (public_key_outcome (numbered set_number) keys layers constants secret p (length before)) back
  pub challenge : (set_number : ℕ) (input : Bytes) (limit : ℕ) (before : Bytes) (back : ℕ) (after : Bytes)
      → ChallengePromise set_number input limit before back after
      → HalvesOf (challenged (numbered set_number) input limit (length before)) back
  pub read : (set_number : ℕ) (s before : Bytes) (back : ℕ) (after : Bytes)
      → ReadPromise set_number s before back after → HalvesOf (read (numbered set_number) s (length before)) back
  pub write : (set_number : ℕ) (x before : Bytes) (back : ℕ) (after : Bytes)
      → WritePromise set_number x before back after → HalvesOf (write (numbered set_number) x (length before)) back
  pub sign : (g : sign.Given) (back : ℕ) (room output : Bytes)
      → sign.Signed g back room output → Halves back (sign.refusal g) (length (sign.written g))
  pub verify : (g : verify.Given) (back : ℕ) (room : Bytes) → verify.Verified g back room → Halves back (verify.refusal g) 0

-- what signing writes is no longer than the longest signature of its set
unfoldable pub SignedIsNoLonger : Type 0
SignedIsNoLonger = (g : sign.Given) (set : Set) → numbered g.set_number ≡ Some set → length (sign.written g) ≤ longest set
