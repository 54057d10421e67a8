-- What signing answers, and what it leaves in the room and the output, for every input.
use Rattle.std.specs.Prelude.{◌≡◌, not, cond, ◌||◌, List, [], ◌∷◌, ◌++◌, ℕ, length, get_or, Option, Some, None, Err}
use Rattle.slices.specs.Slices.{Bytes, over, equal}
use Rattle.sets.specs.declared.Set.{Set}
use Rattle.sets.specs.Sets.{numbered}
use Rattle.sets.specs.Lengths.{room_length, seeds_length, longest}
use Rattle.answers.specs.declared.Refusal.TheVariants.{NoSet, Table, Key, Message, Limit, Room, Pair, Blocks}
use Rattle.answers.specs.Answers.{Checked, Check, when, first, fine, answer}
use Rattle.answers.specs.Conditions.{other, tables_other, keys_other, message_out, limit_out, too_short}
use Rattle.circuit.specs.Lowmc.{Cipher}
use Rattle.lowmc.specs.Lent.{cipher_of}
use Rattle.lowmc.specs.Encrypted.{encrypted, ciphertext, plaintext}
use Rattle.hashing.specs.Hashing.{h}
use Rattle.challenge.specs.Blocks.{too_few, first_values}
use Rattle.shape.specs.Form.{Shown, form_of, signature}
use Rattle.views.specs.Parties.{party_of}
use Rattle.views.specs.Signed.{seed_at, salt_at, shown}
use Rattle.views.specs.Input.{challenge_input, signer_filling}
use Rattle.room.specs.Room.{room_after}

-- what a host hands in
pub record Given : Type 0 where
  pub set_number : ℕ
  pub keys : Bytes
  pub layers : Bytes
  pub constants : Bytes
  pub secret : Bytes
  pub public : Bytes
  pub message : Bytes
  pub limit : ℕ
  pub seeds : Bytes
  pub room : Bytes
  pub output : Bytes

-- 2 to 6, of the lengths
unfoldable pub length_checks : Set → (keys layers constants secret public message limit seeds room output : ℕ) → List Check
length_checks set keys layers constants secret public message limit seeds room output =
    when (tables_other set keys layers constants) Table
    ∷ when (keys_other set secret public) Key
    ∷ when (message_out message) Message
    ∷ when (limit_out limit) Limit
    ∷ when (other (seeds_length set) seeds || too_short (room_length set) room || too_short (longest set) output) Room
    ∷ []

-- what the signer shows of round t for the challenge value e
abbrev pub shown_at : Set → Cipher → (secret public seeds : Bytes) → (t e : ℕ) → Shown
shown_at set L secret public seeds t e = shown set L (salt_at set seeds) t (seed_at set seeds t) secret (plaintext set public) (party_of e)

-- the signature for the challenge values es
unfoldable pub signature_for : Set → Cipher → (secret public seeds es : Bytes) → Bytes
signature_for set L secret public seeds es =
    signature set (form_of set es (salt_at set seeds) (λ t. shown_at set L secret public seeds t (get_or es t 0)))

module _ (set : Set) (g : Given) where
  -- LowMC over the lent tables
  abbrev pub cipher : Cipher
  cipher = cipher_of set g.keys g.layers g.constants

  -- 7: LowMC of p under sk is not C
  abbrev pub pair_check : Check
  pair_check =
      when
      (not (equal (encrypted set g.keys g.layers g.constants g.secret (plaintext set g.public)) (ciphertext set g.public)))
      Pair

  -- the block that the challenge begins with: H_1 of its input
  unfoldable pub first_block : Bytes
  first_block =
      h set 1
      (challenge_input (signer_filling set cipher g.secret g.public g.seeds) (salt_at set g.seeds) g.public g.message)

  -- 2 to 6, 7, then 8: fewer than T values in the allowed blocks
  unfoldable pub checks : List Check
  checks =
      length_checks set (length g.keys) (length g.layers) (length g.constants) (length g.secret) (length g.public)
      (length g.message) g.limit (length g.seeds) (length g.room) (length g.output)
      ++ (pair_check ∷ when (too_few set first_block g.limit) Blocks ∷ [])

  -- the signature, for the first T values
  unfoldable pub signature_of : Bytes
  signature_of = signature_for set cipher g.secret g.public g.seeds (first_values set first_block g.limit)

-- 1: the set is not 1, 2 or 3; else the first check that holds
unfoldable pub refusal_for : Option Set → Given → Checked
refusal_for None g = Err NoSet
refusal_for (Some set) g = first (checks set g)

unfoldable pub signature_by : Option Set → Given → Bytes
signature_by None g = []
signature_by (Some set) g = signature_of set g

abbrev pub refusal : Given → Checked
refusal g = refusal_for (numbered g.set_number) g

-- what is written if nothing is refused
unfoldable pub written : Given → Bytes
written g = cond (fine (refusal g)) (signature_by (numbered g.set_number) g) []

-- the promise: the answer, and what is left in the room and in the output
pub record Signed (g : Given) (back : ℕ) (room output : Bytes) : Type 0 where
  pub answered : back ≡ answer (refusal g) (length (written g))
  pub left-room : room ≡ room_after (numbered g.set_number) (refusal g) g.room
  pub left-output : output ≡ over (written g) g.output

-- two outcomes that the promise allows are equal
unfoldable pub SameSigned : Type 0
SameSigned =
    (g : Given) (m n : ℕ) (room room' output output' : Bytes) → Signed g m room output → Signed g n room' output'
    → (m ≡ n) × ((room ≡ room') × (output ≡ output'))
