-- How long the seeds and the salt are that lie in the lent seeds.
use mathlib.Core.Path.{◌≡◌}
use Prim.Native.Nat.{ℕ, ◌+◌, ◌*◌, ◌<◌}
use native.Mathlib.Omega.{arith}
use lib.ListN.{length, length-drop}
use Rattle.slices.specs.Slices.{Bytes}
use Rattle.sets.specs.declared.Set.{Set}
use Rattle.sets.specs.Lengths.{seed_width, salt_length, seeds_length}
use Rattle.circuit.specs.Round.{Party, party0, party1, party2}
use Rattle.circuit.specs.Tapes.{party_number}
use Rattle.lowmc.proofs.LentLaws.{row_room}
use Rattle.shape.proofs.PartLaws.{length_part}
use Rattle.views.specs.Signed.{seed_at, salt_at}

-- ---- a seed

number_small : (k : Party) → party_number k < 3
number_small party0 = omega arith
number_small party1 = omega arith
number_small party2 = omega arith

pub length_seed : (p : Set) (s : Bytes) (t : ℕ) → length s ≡ seeds_length p → t < p.t → (k : Party) → length (seed_at p s t k) ≡ seed_width p
length_seed p s t h l k =
    length_part s ((3 * t + party_number k) * seed_width p) (seed_width p)
    (omega (arith, row_room (3 * t + party_number k) (3 * p.t) (seed_width p) (omega (arith, number_small k))))

-- ---- the salt

pub length_salt : (p : Set) (s : Bytes) → length s ≡ seeds_length p → length (salt_at p s) ≡ salt_length
length_salt p s h = omega (arith, length-drop (3 * p.t * seed_width p) s)
