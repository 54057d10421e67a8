-- The conditions of 01's table that several calls check, over the lengths and numbers that a host hands in.
use Rattle.std.specs.Prelude.{Bool, not, ◌||◌, ℕ, eqb, ltb}
use Rattle.sets.specs.declared.Set.{Set}
use Rattle.sets.specs.Lengths.{w, keys_length, layers_length, constants_length, public_length}

-- a length is another than the one wanted
abbrev pub other : ℕ → ℕ → Bool
other wanted found = not (eqb found wanted)

-- 2: a table has another length
unfoldable pub tables_other : Set → (keys layers constants : ℕ) → Bool
tables_other set keys layers constants =
    other (keys_length set) keys || other (layers_length set) layers || other (constants_length set) constants

-- 3: a key or block has another length, where a call takes a secret key and a plaintext block
unfoldable pub blocks_other : Set → (secret block : ℕ) → Bool
blocks_other set secret block = other (w set) secret || other (w set) block

-- 3: where it takes a secret key and a public key
unfoldable pub keys_other : Set → (secret public : ℕ) → Bool
keys_other set secret public = other (w set) secret || other (public_length set) public

-- the longest message
abbrev pub message_most : ℕ
message_most = 1048576

-- the longest output of a hash
abbrev pub hash_most : ℕ
hash_most = 1048576

-- 4: message empty or over 1,048,576 bytes
unfoldable pub message_out : ℕ → Bool
message_out message = eqb message 0 || ltb message_most message

-- 5: block limit 0 or above 64
unfoldable pub limit_out : ℕ → Bool
limit_out limit = eqb limit 0 || ltb 64 limit

-- 6: room or an output too short
abbrev pub too_short : (wanted found : ℕ) → Bool
too_short wanted found = ltb found wanted
