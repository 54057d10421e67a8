-- What reading and writing are to each other, for any set: statements.
use Rattle.std.specs.Prelude.{◌≡◌, ℕ, ◌<◌, get_or}
use Rattle.slices.specs.Slices.{Bytes}
use Rattle.sets.specs.declared.Set.{Set}
use Rattle.answers.specs.Outcome.{gives}
use Rattle.shape.specs.Reading.{reading, writing}

-- numbers that are bytes
abbrev pub AreBytes : Bytes → Type 0
AreBytes s = (k : ℕ) → get_or s k 0 < 256

-- what is read is written again as the same bytes
unfoldable pub ReadIsWritten : Type 0
ReadIsWritten = (set : Set) (s x : Bytes) → AreBytes s → reading set s ≡ gives x → writing set x ≡ gives s

-- what is written reads back as the same form
unfoldable pub WrittenIsRead : Type 0
WrittenIsRead = (set : Set) (x s : Bytes) → writing set x ≡ gives s → reading set s ≡ gives x

-- two different strings never have the same reading: one signature has one form
unfoldable pub OneString : Type 0
OneString = (set : Set) (r s x : Bytes) → AreBytes r → AreBytes s → reading set r ≡ gives x → reading set s ≡ gives x → r ≡ s

-- two different forms are never written as the same signature
unfoldable pub OneForm : Type 0
OneForm = (set : Set) (x y s : Bytes) → writing set x ≡ gives s → writing set y ≡ gives s → x ≡ y
