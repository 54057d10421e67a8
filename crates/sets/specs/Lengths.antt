-- The lengths that follow from a set, in bytes: 01's table and its paragraph "Lent lengths".
use Rattle.std.specs.Prelude.{ℕ, ◌+◌, ◌*◌}
use Rattle.bits.specs.Bytes.{width}
use Rattle.sets.specs.declared.Set.{Set}

-- w, the width of a block, a key or a share
abbrev pub w : Set → ℕ
w set = width set.n

-- the width of a seed
abbrev pub seed_width : Set → ℕ
seed_width set = width set.seed

-- the salt
abbrev pub salt_length : ℕ
salt_length = 32

-- the bits of a transcript: one a gate, three AND gates an S-box, s S-boxes a round of LowMC
abbrev pub transcript_bits : Set → ℕ
transcript_bits set = 3 * set.s * set.r

-- a transcript: these, with zero bits to the byte
abbrev pub transcript_length : Set → ℕ
transcript_length set = width (transcript_bits set)

-- a header: 2T bits, with zero bits to the byte
abbrev pub header_length : Set → ℕ
header_length set = width (2 * set.t)

-- key tables: (r+1)·n·w
abbrev pub keys_length : Set → ℕ
keys_length set = (set.r + 1) * set.n * w set

-- layer tables: r·n·w
abbrev pub layers_length : Set → ℕ
layers_length set = set.r * set.n * w set

-- round constants: r·w
abbrev pub constants_length : Set → ℕ
constants_length set = set.r * w set

-- a public key: ciphertext, then plaintext
abbrev pub public_length : Set → ℕ
public_length set = 2 * w set

-- seeds: three for each round, then the salt
abbrev pub seeds_length : Set → ℕ
seeds_length set = 3 * set.t * seed_width set + salt_length

-- working room: 9·T·w
abbrev pub room_length : Set → ℕ
room_length set = 9 * set.t * w set

-- a round in a signature: commitment, transcript, two seeds; and with an input share
abbrev pub round_least : Set → ℕ
round_least set = set.digest + transcript_length set + 2 * seed_width set

abbrev pub round_most : Set → ℕ
round_most set = round_least set + w set

-- the longest signature: header, salt, and every round with an input share
abbrev pub longest : Set → ℕ
longest set = header_length set + salt_length + set.t * round_most set

-- the unpacked form: T values, one a byte, the salt, and every round with a place for an input share
abbrev pub unpacked_length : Set → ℕ
unpacked_length set = set.t + salt_length + set.t * round_most set
