-- The lengths of what a round puts in the room: three in a row, and what is recomputed of each party.
use mathlib.Core.Path.{◌≡◌}
use mathlib.Core.List.{◌++◌}
use Prim.Native.Nat.{ℕ, ◌*◌}
use native.Mathlib.Omega.{arith}
use lib.ListN.{length, length-append}
use Rattle.slices.specs.Slices.{Bytes}
use Rattle.bits.specs.Bytes.{width}
use Rattle.bits.proofs.BytesLaws.{length-bytes_of}
use Rattle.sets.specs.declared.Set.{Set}
use Rattle.sets.specs.Sets.{IsSet}
use Rattle.circuit.specs.Lowmc.{Cipher}
use Rattle.circuit.specs.Round.{Party, party0, party1, party2}
use Rattle.hashing.specs.Hashing.{commitment}
use Rattle.hashing.proofs.HashingLaws.{length-h}
use Rattle.shape.specs.Form.{Shown}
use Rattle.views.specs.Parties.{three}
use Rattle.views.specs.Opened.{recomputed_outputs, recomputed_commitments}
use Rattle.views.proofs.PartiesLaws.{all_three}

pub length_three : (f : Party → Bytes) (n : ℕ) → ((j : Party) → length (f j) ≡ n) → length (three f) ≡ 3 * n
length_three f n h =
    let a = h party0 in
    let b = h party1 in
    let c = h party2 in
    omega (arith, length-append (f party0) (f party1 ++ f party2), length-append (f party1) (f party2), a, b, c)

module _ (p : Set) (C : Cipher) (salt : Bytes) (t : ℕ) (e : Party) (u : Shown) (block cipher : Bytes) where
  pub recomputed-output : (j : Party) → length (recomputed_outputs p C salt t e u block cipher j) ≡ width C.n
  unfolding recomputed_outputs
  recomputed-output = all_three (λ (l : Bytes). length l ≡ width C.n) e (length-bytes_of C.n _) (length-bytes_of C.n _) (length-bytes_of C.n _)

  pub recomputed-commitment : IsSet p → length u.commitment ≡ p.digest
      → (j : Party) → length (recomputed_commitments p C salt t e u block cipher j) ≡ p.digest
  unfolding recomputed_commitments commitment
  recomputed-commitment q l = all_three (λ (l : Bytes). length l ≡ p.digest) e (length-h q 0 _) (length-h q 0 _) l
