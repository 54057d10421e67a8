-- Cited by inner contracts alone: what the engine's values say, shares and rows of gates by party, and what a simulation and a
-- recomputation leave.
use Rattle.std.specs.Prelude.{◌≡◌, List, [], ℕ, ◌*◌, ◌<◌, ◌≤◌, get_or}
use Rattle.bits.specs.Bits.{Bits, up_to}
use Rattle.bits.specs.Words.{word_bits, block_bits}
use Rattle.bits.specs.Rows.{Rows, rows_of, Rowed}
use Rattle.bits.specs.declared.Block.{Block}
use Rattle.bits.specs.declared.Strip.{Strip}
use Rattle.circuit.specs.Lowmc.{Cipher, state_after}
use Rattle.circuit.specs.Round.{Party, transcript, output_share, Opening, transcript₁, output₁, output₂}
use Rattle.circuit.specs.Tapes.{party_number}
use Rattle.lowmc.specs.Vectors.{at}
use Rattle.round.specs.declared.View.{View}
use Rattle.round.specs.declared.Again.{Again}

-- of three blocks by party, the bits of a party's
abbrev pub share_in : List Block → Party → Bits
share_in s j = block_bits (at s (party_number j))

-- of three rows by party, a party's word
abbrev pub word : List ℕ → Party → ℕ
word g j = get_or g (party_number j) 0

-- and its bits
abbrev pub row_of : List ℕ → Party → Bits
row_of g j = word_bits (word g j)

-- words that hold the first n rows of t, m bits each, and nothing else
pub record Written (m n : ℕ) (t : Rows) (ws : List ℕ) : Type 0 where
  pub rowed : Rowed m n ws
  pub rows : (i : ℕ) → i < n → rows_of ws i ≡ up_to m (t i)

-- ---- the signer

-- the states of the encryption of p under the key, by how many rounds are done
abbrev pub Traced : Cipher → (key p : Bits) → List Block → Type 0
Traced L key p xs = (i : ℕ) → i ≤ L.r → block_bits (at xs i) ≡ state_after L key p i

-- of three transcripts by party, the words of a party's
abbrev pub said_in : List Strip → Party → List ℕ
said_in ts j = (get_or ts (party_number j) (record { words = [] })).words

-- and of those that a simulation leaves
abbrev pub said : View → Party → List ℕ
said v j = said_in v.said j

-- a simulation's output shares and transcripts
pub record Simulated (L : Cipher) (p : Bits) (x : Party → Bits) (t : Party → Rows) (v : View) : Type 0 where
  pub outputs : (j : Party) → share_in v.out j ≡ output_share L p x t j
  pub transcripts : (j : Party) → Written (3 * L.s) L.r (transcript L p x t j) (said v j)

-- ---- the verifier

-- what is opened: input shares, rows of tapes, and the second party's transcript
abbrev pub opening_on_words : (share1 share2 : Block) (tape1 tape2 given : Strip) → Opening
opening_on_words share1 share2 tape1 tape2 given = record {
  share₁ = block_bits share1;
  share₂ = block_bits share2;
  tape₁ = rows_of tape1.words;
  tape₂ = rows_of tape2.words;
  transcript₂ = rows_of given.words;
}

-- a recomputation's output shares and transcript
pub record RecomputedAs (L : Cipher) (p : Bits) (e : Party) (o : Opening) (v : Again) : Type 0 where
  pub first : block_bits v.first ≡ output₁ L p e o
  pub second : block_bits v.second ≡ output₂ L p e o
  pub transcript : Written (3 * L.s) L.r (transcript₁ L p e o) v.said.words
