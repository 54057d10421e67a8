-- The S-boxes with their AND gates apart, as a party of a round computes them: three gates to an S-box, in the order ab, bc, ca.
-- LowMC's own definition does not use this.
use Rattle.std.specs.Prelude.{Bool, cond, ℕ, ◌+◌, ◌*◌, ◌/◌, ◌%◌, ltb}
use Rattle.bits.specs.Bits.{◌⊻◌, Bits}
use Rattle.circuit.specs.Lowmc.{Three, three_at, in_three, placed}

-- the left factors of the gates ab, bc, ca
unfoldable pub left_factor : Bits → Bits
left_factor x g = let t = three_at x (3 * (g / 3)) in in_three t.a t.b t.c (g % 3)

-- their right factors
unfoldable pub right_factor : Bits → Bits
right_factor x g = let t = three_at x (3 * (g / 3)) in in_three t.b t.c t.a (g % 3)

-- an S-box, where its gates gave ab, bc and ca
unfoldable pub sbox_by : Three → (ab bc ca : Bool) → Three
sbox_by x ab bc ca = record {
  a = x.a ⊻ bc;
  b = x.a ⊻ x.b ⊻ ca;
  c = x.a ⊻ x.b ⊻ x.c ⊻ ab;
}

-- the s S-boxes, where t has what the gates gave, each in its place
unfoldable pub sboxes_by : ℕ → (x t : Bits) → Bits
sboxes_by s x t i =
    let j = 3 * (i / 3) in
    cond (ltb i (3 * s)) (placed (sbox_by (three_at x j) (t j) (t (j + 1)) (t (j + 2))) (i % 3)) (x i)
