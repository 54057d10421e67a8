-- What Picnic hashes, over the SHAKE of a set: 01's section "Hashing", with the tape as 02 mends it (M-101).
use Rattle.std.specs.Prelude.{[], ◌∷◌, ◌++◌, ℕ, ◌/◌, ◌%◌}
use Rattle.slices.specs.Slices.{Bytes}
use Rattle.sets.specs.declared.Set.{Set}
use Rattle.sets.specs.Lengths.{seeds_length}
use Rattle.shake.specs.Shake.{shake}

-- H_i(x) hashes the byte i and then x, to one digest
unfoldable pub h : Set → ℕ → Bytes → Bytes
h set i x = shake set.rate (i ∷ x) set.digest

-- KDF is the set's SHAKE with no prefix
unfoldable pub kdf : Set → Bytes → ℕ → Bytes
kdf set x n = shake set.rate x n

-- integers beside seeds are 16-bit little endian
unfoldable pub le16 : ℕ → Bytes
le16 v = v % 256 ∷ v / 256 % 256 ∷ []

-- derived seeds: KDF(sk, M, pk, S), the whole seeds length
unfoldable pub derived_seeds : Set → (secret message public : Bytes) → Bytes
derived_seeds set secret message public = kdf set (secret ++ (message ++ (public ++ le16 set.seed))) (seeds_length set)

-- what a tape is drawn from: the seed's digest, salt, t, j and the length in bytes
unfoldable pub tape_input : (digest salt : Bytes) (t j length : ℕ) → Bytes
tape_input digest salt t j length = digest ++ (salt ++ (le16 t ++ (le16 j ++ le16 length)))

-- tape of party j in round t: KDF(H_2(seed), salt, t, j, length)
unfoldable pub tape : Set → (seed salt : Bytes) (t j length : ℕ) → Bytes
tape set seed salt t j length = kdf set (tape_input (h set 2 seed) salt t j length) length

-- what a commitment hashes: H_4(seed), input share, transcript, output share
unfoldable pub view : Set → (seed share transcript output : Bytes) → Bytes
view set seed share transcript output = h set 4 seed ++ (share ++ (transcript ++ output))

-- commitment: H_0 of that
unfoldable pub commitment : Set → (seed share transcript output : Bytes) → Bytes
commitment set seed share transcript output = h set 0 (view set seed share transcript output)
