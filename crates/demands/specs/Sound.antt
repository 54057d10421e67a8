-- Demand 3, second half: who can answer all three challenges of a round has a secret key, or two strings with one digest.
use Rattle.std.specs.Prelude.{◌≡◌, ◌⊎◌, ℕ, ◌<◌, length, get_or}
use Rattle.slices.specs.Slices.{Bytes}
use Rattle.bits.specs.Bytes.{bits_of, bytes_of, Packed}
use Rattle.sets.specs.declared.Set.{Set}
use Rattle.sets.specs.Sets.{IsSet}
use Rattle.sets.specs.Lengths.{public_length, seed_width, seeds_length, unpacked_length}
use Rattle.answers.specs.Answers.{Fine, first}
use Rattle.circuit.specs.Lowmc.{Cipher}
use Rattle.circuit.specs.Round.{Party, party0}
use Rattle.circuit.specs.RoundTheorems.{xor3}
use Rattle.circuit.specs.Tapes.{party_number}
use Rattle.lowmc.specs.Lent.{cipher_of}
use Rattle.lowmc.specs.Encrypted.{encrypted, ciphertext, plaintext}
use Rattle.shape.specs.Header.{AreValues}
use Rattle.shape.specs.Form.{Shown, Sized, form, values_in, salt_in, shown_in}
use Rattle.shape.specs.Reading.{read_checks}
use Rattle.shape.specs.RoundTrips.{AreBytes}
use Rattle.views.specs.Signed.{salt_at, shown}
use Rattle.views.specs.Opened.{share₁, recomputed_outputs, recomputed_commitments}
use Rattle.views.specs.Input.{challenge_input, signer_filling, verifier_filling}
use Rattle.signer.specs.Sign.{signature_for}
use Rattle.demands.specs.Hashed.{hashed_by_three, Collision}

-- sk has w bytes, with zero padding, and LowMC of p under it is C
pub record SecretKey (set : Set) (keys layers constants public sk : Bytes) : Type 0 where
  pub packed : Packed set.n sk
  pub encrypts : encrypted set keys layers constants sk (plaintext set public) ≡ ciphertext set public

-- the XOR of the three input shares, party e's as challenge e opens it
unfoldable pub extracted : (set : Set) (L : Cipher) (salt : Bytes) (t : ℕ) (u : Party → Shown) → Bytes
extracted set L salt t u = bytes_of L.n (xor3 (λ e. bits_of (share₁ set L salt t e (u e))))

-- ---- one round

-- three openings of one round, u e for challenge e, of the lengths that reading has checked: their recomputed commitments and
-- output shares are the same
pub record OneRound (set : Set) (L : Cipher) (salt : Bytes) (t : ℕ) (p C : Bytes) (u : Party → Shown) : Type 0 where
  pub sized : (e : Party) → Sized set (u e)
  pub same_commitments : (d e j : Party)
      → recomputed_commitments set L salt t d (u d) p C j ≡ recomputed_commitments set L salt t e (u e) p C j
  pub same_outputs : (d e j : Party)
      → recomputed_outputs set L salt t d (u d) p C j ≡ recomputed_outputs set L salt t e (u e) p C j

module _ (set : Set) (keys layers constants public salt : Bytes) (t : ℕ) (u : Party → Shown) where
  -- three such openings for a public key over lent tables
  abbrev pub Openings : Type 0
  Openings = OneRound set (cipher_of set keys layers constants) salt t (plaintext set public) (ciphertext set public) u

  -- their input shares XOR to a secret key, or two different strings that they hash have one digest
  abbrev pub KeyOrCollision : Type 0
  KeyOrCollision =
      SecretKey set keys layers constants public (extracted set (cipher_of set keys layers constants) salt t u)
      ⊎ Collision set (hashed_by_three set (cipher_of set keys layers constants) salt t (plaintext set public) (ciphertext set public) u)

-- three openings of one round that agree give a secret key, or a collision among what they hash
unfoldable pub RoundSound : Type 0
RoundSound =
    (set : Set) → IsSet set → (keys layers constants public : Bytes) → Packed set.n (ciphertext set public)
    → (salt : Bytes) (t : ℕ) (u : Party → Shown)
    → Openings set keys layers constants public salt t u → KeyOrCollision set keys layers constants public salt t u

-- C is w bytes with zero padding: in the three sets, so is that of any public key of its length
unfoldable pub PublicKeysArePacked : Type 0
PublicKeysArePacked =
    (set : Set) → IsSet set → (public : Bytes) → AreBytes public → length public ≡ public_length set → Packed set.n (ciphertext set public)

-- it asks for nothing that signing does not give: what it shows of a round for the three challenges are such openings
unfoldable pub HonestRound : Type 0
HonestRound =
    (set : Set) → IsSet set → (keys layers constants secret public : Bytes)
    → encrypted set keys layers constants secret (plaintext set public) ≡ ciphertext set public
    → (salt : Bytes) (t : ℕ) (seeds : Party → Bytes) → ((j : Party) → length (seeds j) ≡ seed_width set)
    → Openings set keys layers constants public salt t
    (shown set (cipher_of set keys layers constants) salt t seeds secret (plaintext set public))

-- ---- signatures

-- an unpacked form of the set's length, as reading gives no other, for which the challenge is recomputed from this input
pub record Run (set : Set) (L : Cipher) (public message input x : Bytes) : Type 0 where
  pub exact : length x ≡ unpacked_length set
  pub recomputed : challenge_input (verifier_filling set L public x) (salt_in set x) public message ≡ input

-- three forms with one input of the challenge, whose values in round t are 0, 1 and 2, give a secret key, or a collision
unfoldable pub SignatureSound : Type 0
SignatureSound =
    (set : Set) → IsSet set → (keys layers constants public message input : Bytes) → Packed set.n (ciphertext set public)
    → (x : Party → Bytes) → ((e : Party) → Run set (cipher_of set keys layers constants) public message input (x e))
    → (t : ℕ) → t < set.t → ((e : Party) → get_or (values_in set (x e)) t 0 ≡ party_number e)
    → KeyOrCollision set keys layers constants public (salt_in set (x party0)) t (λ e. shown_in set (x e) t)

-- every signature that reading passes has such a form: here for the input that verifying makes of it
unfoldable pub ReadRuns : Type 0
ReadRuns =
    (set : Set) (L : Cipher) (public message s : Bytes) → first (read_checks set s) ≡ Fine
    → Run set L public message (challenge_input (verifier_filling set L public (form set s)) (salt_in set (form set s)) public message) (form set s)

-- the signature that signing makes with the values es is read as a form with these values, for which the challenge is
-- recomputed from the signer's own input
pub record Reread (set : Set) (L : Cipher) (secret public seeds message es : Bytes) : Type 0 where
  pub read : first (read_checks set (signature_for set L secret public seeds es)) ≡ Fine
  pub values : values_in set (form set (signature_for set L secret public seeds es)) ≡ es
  pub run : Run set L public message
      (challenge_input (signer_filling set L secret public seeds) (salt_at set seeds) public message)
      (form set (signature_for set L secret public seeds es))

-- whatever the values are: so signing could meet every challenge, and those three forms exist
unfoldable pub HonestRuns : Type 0
HonestRuns =
    (set : Set) → IsSet set → (keys layers constants secret public seeds message es : Bytes)
    → encrypted set keys layers constants secret (plaintext set public) ≡ ciphertext set public
    → length seeds ≡ seeds_length set → length es ≡ set.t → AreValues es
    → Reread set (cipher_of set keys layers constants) secret public seeds message es
