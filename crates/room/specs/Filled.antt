-- What fills the room has exactly the needed bytes.
use Rattle.std.specs.Prelude.{◌≡◌, length}
use Rattle.slices.specs.Slices.{Bytes}
use Rattle.sets.specs.declared.Set.{Set}
use Rattle.sets.specs.Sets.{IsSet}
use Rattle.sets.specs.Lengths.{room_length, unpacked_length}
use Rattle.lowmc.specs.Lent.{cipher_of}
use Rattle.views.specs.Input.{signer_filling, verifier_filling}

-- the signer's output shares and commitments
unfoldable pub SignerFills : Type 0
SignerFills =
    (set : Set) → IsSet set → (keys layers constants secret public seeds : Bytes)
    → length (signer_filling set (cipher_of set keys layers constants) secret public seeds) ≡ room_length set

-- the verifier's, for an unpacked form of its length
unfoldable pub VerifierFills : Type 0
VerifierFills =
    (set : Set) → IsSet set → (keys layers constants public x : Bytes) → length x ≡ unpacked_length set
    → length (verifier_filling set (cipher_of set keys layers constants) public x) ≡ room_length set
