-- What each method of the reader promises, and that no promise leaves anything open.
use Rattle.std.specs.Prelude.{◌≡◌, Bool, Option, ℕ, length}
use Rattle.slices.specs.Slices.{Bytes}
use Rattle.shape.specs.Header.{value_at}
use Rattle.std.specs.Borrow.{Bor}
use Rattle.reader.specs.declared.Reader.{Reader}
use Rattle.reader.specs.Reading.{bit_number, position, next_bit, follow, next_bytes, past_bit, past_bytes}

-- `Reader::new`: the reader holds the signature lent, and stands at its first bit
pub record Started (signature : Bor Bytes) (made : Reader) : Type 0 where
  pub holds : made.signature ≡ signature
  pub stands : made.at ≡ position 0

-- `Reader::next_bit`: the next bit, if there is one, and the reader behind it
pub record BitRead (before : Reader) (found : Option Bool) (after : Reader) : Type 0 where
  pub answered : found ≡ next_bit before.signature.now (bit_number before.at)
  pub stands : after ≡ past_bit before

-- `Reader::next_bytes`: whether as many bytes follow as out has, what out is left with, and the reader behind them
pub record BytesRead (before : Reader) (out : Bytes) (found : Bool) (left : Bytes) (after : Reader) : Type 0 where
  pub answered : found ≡ follow before.signature.now (bit_number before.at) (length out)
  pub filled : left ≡ next_bytes before.signature.now (bit_number before.at) out
  pub stands : after ≡ past_bytes before (length out)

-- `value`: the value at place k
abbrev pub ValueRead : Bytes → ℕ → ℕ → Type 0
ValueRead s k found = found ≡ value_at s k

-- two ends that a promise allows, of one reader and one output, are one: what is answered, what the output is left with, and the
-- reader behind it
pub record EveryMethodIsSettled : Type 0 where
  pub new : (signature : Bor Bytes) (r r' : Reader) → Started signature r → Started signature r' → r ≡ r'
  pub next_bit :
      (before : Reader) (b b' : Option Bool) (r r' : Reader) → BitRead before b r → BitRead before b' r' → (b ≡ b') × (r ≡ r')
  pub next-bytes :
      (before : Reader) (out : Bytes) (b b' : Bool) (left left' : Bytes) (r r' : Reader)
      → BytesRead before out b left r → BytesRead before out b' left' r' → (b ≡ b') × ((left ≡ left') × (r ≡ r'))
  pub value : (s : Bytes) (k v v' : ℕ) → ValueRead s k v → ValueRead s k v' → v ≡ v'
