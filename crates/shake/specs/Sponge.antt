-- The sponge as a value: taking in bytes and giving bytes hand back the next sponge. It is said a byte at a time, so that pieces do not matter.
use Rattle.std.specs.Prelude.{◌≡◌, cond, [], ◌∷◌, ◌++◌, ℕ, zero, suc, ◌+◌, ◌-◌, ◌%◌, ◌<◌, ◌≤◌, eqb, replicate}
use Rattle.slices.specs.Slices.{Bytes}
use Rattle.keccak.specs.Lanes.{Lanes, permuted}
use Rattle.shake.specs.Shake.{byte_at, byte_added, shake}
use Rattle.shake.specs.declared.Sponge.{Sponge}

-- a sponge by its rate, its lanes and its place in the block
abbrev pub sponge : ℕ → Lanes → ℕ → Sponge
sponge r a j = record { lanes = a; at = j; rate = r }

-- nothing taken in: all bits are zero
unfoldable pub started : ℕ → Sponge
started r = sponge r (replicate 25 0) 0

-- one byte taken in; a block that is full is permuted
unfoldable pub absorbed_byte : Sponge → ℕ → Sponge
absorbed_byte s b =
    cond (eqb (s.at + 1) s.rate)
    (sponge s.rate (permuted (byte_added s.lanes s.at b)) 0)
    (sponge s.rate (byte_added s.lanes s.at b) (s.at + 1))

-- the bytes of m taken in
unfoldable pub absorbed : Sponge → Bytes → Sponge
absorbed s [] = s
absorbed s (b ∷ m) = absorbed (absorbed_byte s b) m

-- the message ended: suffix and padding in what is left of the block, which is permuted
unfoldable pub padded : Sponge → Sponge
padded s = sponge s.rate (permuted (byte_added (byte_added s.lanes s.at 0x1F) (s.rate - 1) 0x80)) 0

-- what the next byte is given from: the next block where this one is spent
unfoldable pub ready : Sponge → Sponge
ready s = cond (eqb s.at s.rate) (sponge s.rate (permuted s.lanes) 0) s

-- one byte passed
unfoldable pub passed : Sponge → Sponge
passed s = sponge s.rate s.lanes (s.at + 1)

-- the next n bytes
unfoldable pub given : Sponge → ℕ → Bytes
given s zero = []
given s (suc n) = byte_at (ready s).lanes (ready s).at ∷ given (passed (ready s)) n

-- the sponge after them
unfoldable pub squeezed : Sponge → ℕ → Sponge
squeezed s zero = s
squeezed s (suc n) = squeezed (passed (ready s)) n

-- ---- what the methods ask

-- a rate: some whole lanes, fewer than all 25
pub record Rate (r : ℕ) : Type 0 where
  pub some : 0 < r
  pub small : r < 200
  pub words : r % 8 ≡ 0

-- s takes bytes of a message: its block has room
pub record Taking (s : Sponge) : Type 0 where
  pub rated : Rate s.rate
  pub room : s.at < s.rate

-- s gives bytes
pub record Giving (s : Sponge) : Type 0 where
  pub rated : Rate s.rate
  pub within : s.at ≤ s.rate

-- ---- what is proved of them

-- absorbing in pieces is absorbing the whole
unfoldable pub AbsorbsInPieces : Type 0
AbsorbsInPieces = (s : Sponge) (m n : Bytes) → absorbed (absorbed s m) n ≡ absorbed s (m ++ n)

-- squeezing in pieces is squeezing the whole
pub record SqueezesInPieces : Type 0 where
  pub next : (s : Sponge) (m n : ℕ) → squeezed (squeezed s m) n ≡ squeezed s (m + n)
  pub bytes : (s : Sponge) (m n : ℕ) → given s m ++ given (squeezed s m) n ≡ given s (m + n)

-- a message absorbed from the start, padded and squeezed is SHAKE of it
unfoldable pub GivesShake : Type 0
GivesShake = (r : ℕ) → Rate r → (m : Bytes) (n : ℕ) → given (padded (absorbed (started r) m)) n ≡ shake r m n
