-- 01's examples of a block limit and of a message's length, at the calls that take them and in the numbers that a host sees.
use Rattle.std.specs.Prelude.{◌≡◌, ◌⊎◌, ℕ, ◌*◌, ◌/◌, ◌^◌, ◌≤◌, length}
use Rattle.slices.specs.Slices.{Bytes}
use Rattle.hashing.specs.SeedsCall.{SeedsPromise}
use Rattle.signer.specs.Sign as sign
use Rattle.verifier.specs.Verify as verify

-- ---- block limit 1, set 1: 8 once the earlier checks pass, for 128 pairs can't fill 219

-- signing: none of the numbers 1 to 7 is answered
unfoldable pub OneBlockSignsNothing : Type 0
OneBlockSignsNothing =
    (g : sign.Given) → g.set_number ≡ 1 → g.limit ≡ 1 → (back : ℕ) (room output : Bytes) → sign.Signed g back room output
    → ((k : ℕ) → 1 ≤ k → k ≤ 7 → ¬ (back / 2 ^ 32 ≡ k)) → back ≡ 8 * 2 ^ 32

-- verifying: none of 1 to 6 and 9 to 11
unfoldable pub OneBlockVerifiesNothing : Type 0
OneBlockVerifiesNothing =
    (g : verify.Given) → g.set_number ≡ 1 → g.limit ≡ 1 → (back : ℕ) (room : Bytes) → verify.Verified g back room
    → ((k : ℕ) → 1 ≤ k → k ≤ 6 → ¬ (back / 2 ^ 32 ≡ k)) → ((k : ℕ) → 9 ≤ k → k ≤ 11 → ¬ (back / 2 ^ 32 ≡ k)) → back ≡ 8 * 2 ^ 32

-- ---- a message of 1,048,577 bytes: 4

-- once the earlier checks pass; a message of 1,048,576 bytes or of one byte is never refused with 4
pub record MessageExample (n back : ℕ) : Type 0 where
  pub long : n ≡ 1048577 → ((k : ℕ) → 1 ≤ k → k ≤ 3 → ¬ (back / 2 ^ 32 ≡ k)) → back ≡ 4 * 2 ^ 32
  pub taken : (n ≡ 1048576) ⊎ (n ≡ 1) → ¬ (back / 2 ^ 32 ≡ 4)

-- in each call that takes a message
pub record MessageExamples : Type 0 where
  pub seeds : (set_number : ℕ) (secret public message before : Bytes) (back : ℕ) (after : Bytes)
      → SeedsPromise set_number secret public message before back after → MessageExample (length message) back
  pub sign : (g : sign.Given) (back : ℕ) (room output : Bytes) → sign.Signed g back room output → MessageExample (length g.message) back
  pub verify : (g : verify.Given) (back : ℕ) (room : Bytes) → verify.Verified g back room → MessageExample (length g.message) back
