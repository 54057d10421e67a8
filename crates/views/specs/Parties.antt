-- Three parties in a row, and which of them a challenge value opens.
use Rattle.std.specs.Prelude.{cond, ◌++◌, ℕ, eqb}
use Rattle.slices.specs.Slices.{Bytes}
use Rattle.circuit.specs.Round.{Party, party0, party1, party2}

-- the party whose number is the challenge value e
abbrev pub party_of : ℕ → Party
party_of e = cond (eqb e 0) party0 (cond (eqb e 1) party1 party2)

-- under challenge e: x for party e, y for e+1, z for e+2
abbrev pub from_party : {A : Type 0} → (e : Party) → (x y z : A) → Party → A
from_party party0 x y z party0 = x
from_party party0 x y z party1 = y
from_party party0 x y z party2 = z
from_party party1 x y z party0 = z
from_party party1 x y z party1 = x
from_party party1 x y z party2 = y
from_party party2 x y z party0 = y
from_party party2 x y z party1 = z
from_party party2 x y z party2 = x

-- by party
abbrev pub three : (Party → Bytes) → Bytes
three f = f party0 ++ (f party1 ++ f party2)
