-- What verifying answers and what it leaves in the room, for every input.
use Rattle.std.specs.Prelude.{◌≡◌, not, List, [], ◌∷◌, ◌++◌, ℕ, length, Option, Some, None, Err}
use Rattle.slices.specs.Slices.{Bytes, equal}
use Rattle.sets.specs.declared.Set.{Set}
use Rattle.sets.specs.Sets.{numbered}
use Rattle.sets.specs.Lengths.{public_length, room_length}
use Rattle.answers.specs.declared.Refusal.TheVariants.{NoSet, Table, Key, Message, Limit, Room, Blocks, Differs}
use Rattle.answers.specs.Answers.{Checked, Check, when, first, answer}
use Rattle.answers.specs.Conditions.{other, tables_other, message_out, limit_out, too_short}
use Rattle.lowmc.specs.Lent.{cipher_of}
use Rattle.hashing.specs.Hashing.{h}
use Rattle.challenge.specs.Blocks.{too_few, first_values}
use Rattle.shape.specs.Form.{form, values_in, salt_in}
use Rattle.shape.specs.Reading.{read_checks}
use Rattle.views.specs.Input.{challenge_input, verifier_filling}
use Rattle.room.specs.Room.{room_after}

-- what a host hands in
pub record Given : Type 0 where
  pub set_number : ℕ
  pub keys : Bytes
  pub layers : Bytes
  pub constants : Bytes
  pub public : Bytes
  pub message : Bytes
  pub limit : ℕ
  pub room : Bytes
  pub signature : Bytes

-- 2 to 6, of the lengths
unfoldable pub length_checks : Set → (keys layers constants public message limit room : ℕ) → List Check
length_checks set keys layers constants public message limit room =
    when (tables_other set keys layers constants) Table
    ∷ when (other (public_length set) public) Key
    ∷ when (message_out message) Message
    ∷ when (limit_out limit) Limit
    ∷ when (too_short (room_length set) room) Room
    ∷ []

-- 8, then 12, for the first block b of the recomputed challenge and the signature's values es
unfoldable pub verdict_checks : Set → (b : Bytes) (limit : ℕ) (es : Bytes) → List Check
verdict_checks set b limit es =
    when (too_few set b limit) Blocks
    ∷ when (not (equal (first_values set b limit) es)) Differs
    ∷ []

-- the first block of the challenge as it is recomputed from a signature's unpacked form x: H_1 of its input
unfoldable pub first_block : Set → (keys layers constants public message x : Bytes) → Bytes
first_block set keys layers constants public message x =
    h set 1 (challenge_input (verifier_filling set (cipher_of set keys layers constants) public x) (salt_in set x) public message)

-- 2 to 6, then 9, 10, 9, 11, then 8, 12
unfoldable pub checks : Set → Given → List Check
checks set g =
    let x = form set g.signature in
    length_checks set (length g.keys) (length g.layers) (length g.constants) (length g.public) (length g.message) g.limit
    (length g.room)
    ++ (read_checks set g.signature
    ++ verdict_checks set (first_block set g.keys g.layers g.constants g.public g.message x) g.limit (values_in set x))

-- 1: the set is not 1, 2 or 3; else the first check that holds
unfoldable pub refusal_for : Option Set → Given → Checked
refusal_for None g = Err NoSet
refusal_for (Some set) g = first (checks set g)

abbrev pub refusal : Given → Checked
refusal g = refusal_for (numbered g.set_number) g

-- the promise: the answer, bytes written being 0 in verifying, and what is left in the room
pub record Verified (g : Given) (back : ℕ) (room : Bytes) : Type 0 where
  pub answered : back ≡ answer (refusal g) 0
  pub left : room ≡ room_after (numbered g.set_number) (refusal g) g.room

-- two outcomes that the promise allows are equal
unfoldable pub SameVerified : Type 0
SameVerified = (g : Given) (m n : ℕ) (room room' : Bytes) → Verified g m room → Verified g n room' → (m ≡ n) × (room ≡ room')
