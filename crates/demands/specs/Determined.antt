-- Demand 1: the promise of each call settles its answer and what it leaves in every slice that it may write.
-- That the functions of `picnic` ensure these promises is said in Exported.antt.
use Rattle.std.specs.Prelude.{◌≡◌, ℕ}
use Rattle.slices.specs.Slices.{Bytes}
use Rattle.hashing.specs.HashCall.{HashPromise}
use Rattle.hashing.specs.SeedsCall.{SeedsPromise}
use Rattle.lowmc.specs.Calls.{EncryptPromise, PublicKeyPromise}
use Rattle.challenge.specs.ChallengeCall.{ChallengePromise}
use Rattle.shape.specs.Reading.{ReadPromise, WritePromise}
use Rattle.signer.specs.Sign.{SameSigned}
use Rattle.verifier.specs.Verify.{SameVerified}

-- two ends that a promise of an answer and an output allows are one
abbrev pub OneEnd : (promise : (back : ℕ) (after : Bytes) → Type 0) → Type 0
OneEnd promise = (m n : ℕ) (after last : Bytes) → promise m after → promise n last → (m ≡ n) × (after ≡ last)

-- picnic_hash
unfoldable pub HashIsSettled : Type 0
HashIsSettled = (set_number : ℕ) (input before : Bytes) → OneEnd (HashPromise set_number input before)

-- picnic_encrypt
unfoldable pub EncryptIsSettled : Type 0
EncryptIsSettled =
    (set_number : ℕ) (keys layers constants secret p before : Bytes) → OneEnd (EncryptPromise set_number keys layers constants secret p before)

-- picnic_public_key
unfoldable pub PublicKeyIsSettled : Type 0
PublicKeyIsSettled =
    (set_number : ℕ) (keys layers constants secret p before : Bytes) → OneEnd (PublicKeyPromise set_number keys layers constants secret p before)

-- picnic_seeds
unfoldable pub SeedsIsSettled : Type 0
SeedsIsSettled = (set_number : ℕ) (secret public message before : Bytes) → OneEnd (SeedsPromise set_number secret public message before)

-- picnic_challenge
unfoldable pub ChallengeIsSettled : Type 0
ChallengeIsSettled = (set_number : ℕ) (input : Bytes) (limit : ℕ) (before : Bytes) → OneEnd (ChallengePromise set_number input limit before)

-- picnic_read
unfoldable pub ReadIsSettled : Type 0
ReadIsSettled = (set_number : ℕ) (signature before : Bytes) → OneEnd (ReadPromise set_number signature before)

-- picnic_write
unfoldable pub WriteIsSettled : Type 0
WriteIsSettled = (set_number : ℕ) (unpacked before : Bytes) → OneEnd (WritePromise set_number unpacked before)

-- all nine calls
pub record EveryCallIsSettled : Type 0 where
  pub hash : HashIsSettled
  pub encrypt : EncryptIsSettled
  pub public_key : PublicKeyIsSettled
  pub seeds : SeedsIsSettled
  pub challenge : ChallengeIsSettled
  pub read : ReadIsSettled
  pub write : WriteIsSettled
  pub sign : SameSigned
  pub verify : SameVerified
