-- P1 to P12 of 01, P12 as 02 has it: what the definitions that the promises use give, in one list, is what is printed.
use Rattle.std.specs.Prelude.{◌≡◌, List, [], ◌∷◌, ℕ, take}
use Rattle.sets.specs.declared.Set.{Set}
use Rattle.sets.specs.Sets.{IsSet}
use Rattle.circuit.specs.Round.{by_party}
use Rattle.circuit.specs.Examples.{sbox_on, gate_on}
use Rattle.challenge.specs.Pairs.{all_values}
use Rattle.shape.specs.Header.{header_of}

-- for a set, and whatever values follow the four of P12
unfoldable pub results : Set → (vs : List ℕ) → List (List ℕ)
results set vs =
    sbox_on set.s 0 0 0
    ∷ sbox_on set.s 0 0 1
    ∷ sbox_on set.s 0 1 0
    ∷ sbox_on set.s 0 1 1
    ∷ sbox_on set.s 1 0 0
    ∷ sbox_on set.s 1 0 1
    ∷ sbox_on set.s 1 1 0
    ∷ sbox_on set.s 1 1 1
    ∷ all_values (0x1B ∷ [])
    ∷ all_values (0xFF ∷ [])
    ∷ gate_on (by_party 1 0 0) (by_party 0 1 0) (by_party 1 0 1)
    ∷ take 1 (header_of set (0 ∷ 1 ∷ 2 ∷ 0 ∷ vs))
    ∷ []

-- P1 to P8, the S-box on (a,b,c): 000→000, 001→001, 010→011, 011→110, 100→111, 101→100, 110→101, 111→010;
-- P9: block byte 1B hex gives 0, 1, 2; P10: FF gives nothing; P11: a = (1,0,0), b = (0,1,0), tape bits (1,0,1): the gate gives
-- (0,1,0); P12: values 0, 1, 2, 0 start a header with byte 24 hex
abbrev pub printed : List (List ℕ)
printed =
    (0 ∷ 0 ∷ 0 ∷ [])
    ∷ (0 ∷ 0 ∷ 1 ∷ [])
    ∷ (0 ∷ 1 ∷ 1 ∷ [])
    ∷ (1 ∷ 1 ∷ 0 ∷ [])
    ∷ (1 ∷ 1 ∷ 1 ∷ [])
    ∷ (1 ∷ 0 ∷ 0 ∷ [])
    ∷ (1 ∷ 0 ∷ 1 ∷ [])
    ∷ (0 ∷ 1 ∷ 0 ∷ [])
    ∷ (0 ∷ 1 ∷ 2 ∷ [])
    ∷ []
    ∷ (0 ∷ 1 ∷ 0 ∷ [])
    ∷ (0x24 ∷ [])
    ∷ []

unfoldable pub Table : Type 0
Table = (set : Set) → IsSet set → (vs : List ℕ) → results set vs ≡ printed
