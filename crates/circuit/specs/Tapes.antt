-- Where a party's tape has the bits of its input share and of its gates.
use Rattle.std.specs.Prelude.{ℕ, ◌+◌, ◌*◌, ◌≤◌}
use Rattle.bits.specs.Bits.{from}
use Rattle.bits.specs.Bytes.{bits_of, bytes_of, width}
use Rattle.bits.specs.Rows.{Rows, cut}
use Rattle.slices.specs.Slices.{Bytes}
use Rattle.circuit.specs.Lowmc.{Cipher}
use Rattle.circuit.specs.Round.{Party, party0, party1, party2}

-- a party's number goes into the tape hash
abbrev pub party_number : Party → ℕ
party_number party0 = 0
party_number party1 = 1
party_number party2 = 2

module _ (L : Cipher) where
  -- the bits of a transcript: one a gate, 3s gates a round of LowMC
  abbrev pub gate_bits : ℕ
  gate_bits = 3 * L.s * L.r

  -- a tape has w + transcript bytes for parties 0 and 1, and transcript bytes for party 2
  abbrev pub tape_length : Party → ℕ
  tape_length party0 = width L.n + width gate_bits
  tape_length party1 = width L.n + width gate_bits
  tape_length party2 = width gate_bits

  -- shares 0 and 1 are the first n bits of their tapes
  abbrev pub share_bits_on_tape : Party → ℕ
  share_bits_on_tape party0 = L.n
  share_bits_on_tape party1 = L.n
  share_bits_on_tape party2 = 0

  -- gates take their bits from bit n of tapes 0 and 1 and bit 0 of tape 2
  abbrev pub gates_from : Party → ℕ
  gates_from party0 = L.n
  gates_from party1 = L.n
  gates_from party2 = 0

  -- the first n bits of a tape
  unfoldable pub tape_share : (tape : Bytes) → Bytes
  tape_share tape = bytes_of L.n (bits_of tape)

  -- a tape's bits for the gates, a row a round of LowMC
  unfoldable pub tape_rows : Party → (tape : Bytes) → Rows
  tape_rows j tape = cut (3 * L.s) (from (gates_from j) (bits_of tape))

-- each bit of an input share and each gate has a bit of the tape to itself
unfoldable pub TapesFit : Type 0
TapesFit = (L : Cipher) (j : Party) → (share_bits_on_tape L j ≤ gates_from L j) × (gates_from L j + gate_bits L ≤ 8 * tape_length L j)
