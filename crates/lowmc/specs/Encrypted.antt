-- LowMC in bytes: the encryption of a block under a secret key, and a public key and its halves.
use Rattle.std.specs.Prelude.{◌≡◌, ◌++◌, take, drop}
use Rattle.slices.specs.Slices.{Bytes}
use Rattle.bits.specs.Bytes.{bits_of, bytes_of}
use Rattle.sets.specs.declared.Set.{Set}
use Rattle.sets.specs.Lengths.{w}
use Rattle.circuit.specs.Lowmc.{encryption}
use Rattle.lowmc.specs.Lent.{cipher_of}

-- LowMC of the block under the secret key
unfoldable pub encrypted : Set → (keys layers constants secret p : Bytes) → Bytes
encrypted set keys layers constants secret p =
    bytes_of set.n (encryption (cipher_of set keys layers constants) (bits_of secret) (bits_of p))

-- a public key: ciphertext C, then plaintext p
unfoldable pub public_key : Set → (keys layers constants secret p : Bytes) → Bytes
public_key set keys layers constants secret p = encrypted set keys layers constants secret p ++ p

-- its halves
abbrev pub ciphertext : Set → (public : Bytes) → Bytes
ciphertext set public = take (w set) public

abbrev pub plaintext : Set → (public : Bytes) → Bytes
plaintext set public = drop (w set) public

-- those of a public key that is formed are LowMC of p, and p
unfoldable pub HalvesOfPublicKey : Type 0
HalvesOfPublicKey =
    (set : Set) (keys layers constants secret p : Bytes)
    → (ciphertext set (public_key set keys layers constants secret p) ≡ encrypted set keys layers constants secret p)
    × (plaintext set (public_key set keys layers constants secret p) ≡ p)
