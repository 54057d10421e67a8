-- Cited by inner contracts alone: what a round of the signer asks for, and what it leaves: input shares and output shares on
-- words, transcripts in bytes.
use Rattle.std.specs.Prelude.{◌≡◌, List, [], length, take, get_or}
use Rattle.slices.specs.Slices.{Bytes}
use Rattle.bits.specs.Bytes.{bits_of, bytes_of, width}
use Rattle.sets.specs.declared.Set.{Set}
use Rattle.sets.specs.Lengths.{w, public_length, seeds_length}
use Rattle.circuit.specs.Lowmc.{Cipher}
use Rattle.circuit.specs.Round.{Party}
use Rattle.bits.specs.declared.Block.{Block}
use Rattle.circuit.specs.Tapes.{party_number, gate_bits}
use Rattle.lowmc.specs.Lent.{cipher_of, Lent}
use Rattle.lowmc.specs.Encrypted.{plaintext}
use Rattle.round.specs.Engine.{share_in, Traced}
use Rattle.views.specs.Signed.{shares, outputs, transcripts}
use Rattle.signer.specs.declared.Played.{Played}

-- bytes that start with the transcript of a party
abbrev pub said_by : Played → Party → Bytes
said_by r j = get_or r.said (party_number j) []

-- a round played over tapes
pub record PlayedAs (L : Cipher) (secret : Bytes) (tapes : Party → Bytes) (p : Bytes) (r : Played) : Type 0 where
  pub inputs : (j : Party) → bytes_of L.n (share_in r.inputs j) ≡ shares L secret tapes j
  pub outputs : (j : Party) → bytes_of L.n (share_in r.outputs j) ≡ outputs L secret tapes p j
  pub said : (j : Party) → take (width (gate_bits L)) (said_by r j) ≡ transcripts L secret tapes p j

-- what the checks of lengths leave for the rounds, and the states of the encryption
pub record Ready (set : Set) (keys layers constants secret public seeds : Bytes) (states : List Block) : Type 0 where
  pub lent : Lent set keys layers constants
  pub secret-wide : length secret ≡ w set
  pub public-long : length public ≡ public_length set
  pub seeds-long : length seeds ≡ seeds_length set
  pub traced : Traced (cipher_of set keys layers constants) (bits_of secret) (bits_of (plaintext set public)) states
