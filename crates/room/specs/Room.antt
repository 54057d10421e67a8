-- The working room: where a round's output shares and commitments stand in it, and what a call leaves there.
use Rattle.std.specs.Prelude.{Bool, cond, ◌||◌, ℕ, ◌+◌, ◌*◌, eqb, Option, Some, None}
use Rattle.slices.specs.Slices.{Bytes, put, cleared}
use Rattle.sets.specs.declared.Set.{Set}
use Rattle.sets.specs.Lengths.{w, room_length}
use Rattle.answers.specs.Answers.{Checked, code}

-- the output shares of round t
abbrev pub shares_at : Set → ℕ → ℕ
shares_at set t = t * (3 * w set)

-- its commitments, behind all output shares
abbrev pub commitments_at : Set → ℕ → ℕ
commitments_at set t = set.t * (3 * w set) + t * (3 * set.digest)

-- the room with both of round t put
abbrev pub with_round : Set → ℕ → (shares commitments room : Bytes) → Bytes
with_round set t shares commitments room = put (put room (shares_at set t) shares) (commitments_at set t) commitments

-- 0, 8 and 12 set the needed bytes of the room to zero
unfoldable pub clears : Checked → Bool
clears c = eqb (code c) 0 || eqb (code c) 8 || eqb (code c) 12

-- and keep the rest; every other number keeps it all
unfoldable pub room_after : Option Set → Checked → (room : Bytes) → Bytes
room_after None c room = room
room_after (Some set) c room = cond (clears c) (cleared (room_length set) room) room
