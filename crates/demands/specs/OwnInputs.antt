-- Signing with a public key and with seeds that the library itself wrote.
use Rattle.std.specs.Prelude.{◌≡◌, ℕ, ◌/◌, ◌^◌, ◌≤◌, ◌<◌, length, take, Some}
use Rattle.slices.specs.Slices.{Bytes}
use Rattle.sets.specs.declared.Set.{Set}
use Rattle.sets.specs.Sets.{numbered}
use Rattle.sets.specs.Lengths.{room_length, longest}
use Rattle.lowmc.specs.Encrypted.{encrypted, ciphertext, plaintext}
use Rattle.lowmc.specs.Calls.{PublicKeyPromise}
use Rattle.hashing.specs.SeedsCall.{SeedsPromise}
use Rattle.signer.specs.Sign as sign

-- picnic_public_key answers a length alone: then the first half of what it wrote is LowMC of the block, the second the block
unfoldable pub WrittenKeyHasHalves : Type 0
WrittenKeyHasHalves =
    (set_number : ℕ) (keys layers constants secret p before : Bytes) (back : ℕ) (after : Bytes)
    → PublicKeyPromise set_number keys layers constants secret p before back after → back < 2 ^ 32
    → (set : Set) → numbered set_number ≡ Some set
    → (ciphertext set (take back after) ≡ encrypted set keys layers constants secret p) × (plaintext set (take back after) ≡ p)

-- for that public key, under the same set, tables and secret key, signing never answers 7
unfoldable pub WrittenKeyIsNeverRefused : Type 0
WrittenKeyIsNeverRefused =
    (g : sign.Given) (p before : Bytes) (back : ℕ) (after : Bytes)
    → PublicKeyPromise g.set_number g.keys g.layers g.constants g.secret p before back after → back < 2 ^ 32
    → g.public ≡ take back after
    → (n : ℕ) (room output : Bytes) → sign.Signed g n room output → ¬ (n / 2 ^ 32 ≡ 7)

-- picnic_seeds answers a length alone, for whatever keys and message: then for those seeds signing never answers 6, where room
-- and output suffice
unfoldable pub WrittenSeedsAreNeverRefused : Type 0
WrittenSeedsAreNeverRefused =
    (g : sign.Given) (secret public message before : Bytes) (back : ℕ) (after : Bytes)
    → SeedsPromise g.set_number secret public message before back after → back < 2 ^ 32
    → g.seeds ≡ take back after
    → ((set : Set) → numbered g.set_number ≡ Some set → (room_length set ≤ length g.room) × (longest set ≤ length g.output))
    → (n : ℕ) (room output : Bytes) → sign.Signed g n room output → ¬ (n / 2 ^ 32 ≡ 6)
