-- The figures that 01 prints, and those that follow from its lengths, held against the definitions.
use Rattle.std.specs.Prelude.{◌≡◌, List, [], ◌∷◌, ℕ}
use Rattle.sets.specs.declared.Set.{Set}
use Rattle.sets.specs.Sets.{l1, l3, l5}
use Rattle.sets.specs.Lengths.{w, seed_width, salt_length, transcript_length, header_length, keys_length, layers_length, constants_length, public_length, seeds_length, room_length, longest, unpacked_length}

-- n, r, s, T, the rate of SHAKE128 or SHAKE256, digest, transcript, header, salt
abbrev pub numbers : Set → List ℕ
numbers set = set.n ∷ set.r ∷ set.s ∷ set.t ∷ set.rate ∷ set.digest ∷ transcript_length set ∷ header_length set ∷ salt_length ∷ []

-- what a host lends: a block, a seed, key tables, layer tables, round constants, a public key, seeds, room
abbrev pub lent : Set → List ℕ
lent set = w set ∷ seed_width set ∷ keys_length set ∷ layers_length set ∷ constants_length set ∷ public_length set ∷ seeds_length set ∷ room_length set ∷ []

-- the longest signature, and the unpacked form
abbrev pub made : Set → List ℕ
made set = longest set ∷ unpacked_length set ∷ []

abbrev pub figures : Set → List (List ℕ)
figures set = numbers set ∷ lent set ∷ made set ∷ []

-- the numbers of the three sets
unfoldable pub FiguresOf01 : Type 0
FiguresOf01 =
    figures l1 ∷ figures l3 ∷ figures l5 ∷ []
    ≡ ((128 ∷ 20 ∷ 10 ∷ 219 ∷ 168 ∷ 32 ∷ 75 ∷ 55 ∷ 32 ∷ [])
    ∷ (16 ∷ 16 ∷ 43008 ∷ 40960 ∷ 320 ∷ 32 ∷ 10544 ∷ 31536 ∷ [])
    ∷ (34032 ∷ 34196 ∷ [])
    ∷ [])
    ∷ ((192 ∷ 30 ∷ 10 ∷ 329 ∷ 136 ∷ 48 ∷ 113 ∷ 83 ∷ 32 ∷ [])
    ∷ (24 ∷ 24 ∷ 142848 ∷ 138240 ∷ 720 ∷ 48 ∷ 23720 ∷ 71064 ∷ [])
    ∷ (76772 ∷ 77018 ∷ [])
    ∷ [])
    ∷ ((256 ∷ 38 ∷ 10 ∷ 438 ∷ 136 ∷ 64 ∷ 143 ∷ 110 ∷ 32 ∷ [])
    ∷ (32 ∷ 32 ∷ 319488 ∷ 311296 ∷ 1216 ∷ 64 ∷ 42080 ∷ 126144 ∷ [])
    ∷ (132856 ∷ 133184 ∷ [])
    ∷ [])
    ∷ []
