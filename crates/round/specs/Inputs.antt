-- A round's inputs in bytes: input shares, the rows of tapes, and what is opened.
use Rattle.std.specs.Prelude.{◌≡◌, List, ℕ, ◌*◌, ◌<◌}
use Rattle.slices.specs.Slices.{Bytes}
use Rattle.bits.specs.Bits.{Bits, ◌⊕◌, up_to}
use Rattle.bits.specs.Bytes.{bits_of}
use Rattle.bits.specs.Rows.{Rows, cut, rows_of}
use Rattle.sets.specs.declared.Set.{Set}
use Rattle.circuit.specs.Lowmc.{Cipher}
use Rattle.circuit.specs.Round.{Party, by_party, next, Opening}
use Rattle.circuit.specs.Tapes.{tape_rows}
use Rattle.lowmc.specs.Lent.{cipher_of}

-- shares 0 and 1 are the first n bits of their tapes; share 2 is sk XOR both
abbrev pub input_share : ℕ → (sk : Bits) → (t0 t1 : Bytes) → Party → Bits
input_share n sk t0 t1 = by_party (up_to n (bits_of t0)) (up_to n (bits_of t1)) (sk ⊕ up_to n (bits_of t0) ⊕ up_to n (bits_of t1))

-- words that hold the rows of party j's gates on its tape
abbrev pub Taped : Set → Party → (tape : Bytes) → List ℕ → Type 0
Taped set j tape ws = (keys layers constants : Bytes) (i : ℕ) → i < set.r → rows_of ws i ≡ tape_rows (cipher_of set keys layers constants) j tape i

-- the rows of the three tapes
abbrev pub tapes_of : Cipher → (t0 t1 t2 : Bytes) → Party → Rows
tapes_of L t0 t1 t2 j = tape_rows L j (by_party t0 t1 t2 j)

-- what challenge e opens: input shares, two tapes, and the transcript of party e+1
abbrev pub opening_of : Cipher → Party → (share1 share2 : Bits) → (tape1 tape2 given : Bytes) → Opening
opening_of L e share1 share2 tape1 tape2 given = record {
  share₁ = share1;
  share₂ = share2;
  tape₁ = tape_rows L e tape1;
  tape₂ = tape_rows L (next e) tape2;
  transcript₂ = cut (3 * L.s) (bits_of given);
}
