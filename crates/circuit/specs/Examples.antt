-- P1 to P8 of 01, the S-box on (a,b,c), and P11, the gate of three parties.
use Rattle.std.specs.Prelude.{◌≡◌, List, [], ◌∷◌, ℕ, ◌≤◌, eqb}
use Rattle.bits.specs.Bits.{Bits, up_to}
use Rattle.bits.specs.Bytes.{digit}
use Rattle.circuit.specs.Lowmc.{in_three, sboxes}
use Rattle.circuit.specs.Round.{Party, party0, party1, party2, by_party, gates_of}

-- a state whose first S-box has the bits a, b, c: c, b, a at 0, 1, 2
abbrev pub in_places : (a b c : ℕ) → Bits
in_places a b c = up_to 3 (in_three (eqb c 1) (eqb b 1) (eqb a 1))

-- what s S-boxes leave of these three bits, in the order a, b, c
unfoldable pub sbox_on : (s a b c : ℕ) → List ℕ
sbox_on s a b c = let y = sboxes s (in_places a b c) in digit (y 2) ∷ digit (y 1) ∷ digit (y 0) ∷ []

-- P1 to P8, wherever there is an S-box at all: 000→000, 001→001, 010→011, 011→110, 100→111, 101→100, 110→101, 111→010
unfoldable pub SboxExamples : Type 0
SboxExamples =
    (s : ℕ) → 1 ≤ s
    → sbox_on s 0 0 0 ∷ sbox_on s 0 0 1 ∷ sbox_on s 0 1 0 ∷ sbox_on s 0 1 1 ∷ sbox_on s 1 0 0 ∷ sbox_on s 1 0 1 ∷ sbox_on s 1 1 0 ∷ sbox_on s 1 1 1 ∷ []
    ≡ (0 ∷ 0 ∷ 0 ∷ [])
    ∷ (0 ∷ 0 ∷ 1 ∷ [])
    ∷ (0 ∷ 1 ∷ 1 ∷ [])
    ∷ (1 ∷ 1 ∷ 0 ∷ [])
    ∷ (1 ∷ 1 ∷ 1 ∷ [])
    ∷ (1 ∷ 0 ∷ 0 ∷ [])
    ∷ (1 ∷ 0 ∷ 1 ∷ [])
    ∷ (0 ∷ 1 ∷ 0 ∷ [])
    ∷ []

module _ (a b r : Party → ℕ) where
  -- what the gate ab gives for party i, from the parties' bits a, their bits b and their tape bits r
  abbrev pub gate_for : Party → ℕ
  gate_for i = digit (gates_of (λ j. in_places (a j) (b j) 0) (λ j g. eqb (r j) 1) i 0)

  -- and for all three
  unfoldable pub gate_on : List ℕ
  gate_on = gate_for party0 ∷ gate_for party1 ∷ gate_for party2 ∷ []

-- P11: a = (1,0,0), b = (0,1,0), tape bits (1,0,1): the gate gives (0,1,0)
unfoldable pub GateExample : Type 0
GateExample = gate_on (by_party 1 0 0) (by_party 0 1 0) (by_party 1 0 1) ≡ 0 ∷ 1 ∷ 0 ∷ []
