-- Laws of the permutation on lanes: how long the steps' results are, and one round after the first n.
use mathlib.Core.Path.{◌≡◌, refl, sym, ap, ◌∙◌}
use mathlib.Core.List.{List, map}
use Prim.Native.Nat.{ℕ, zero, suc, ◌+◌, ◌<◌}
use native.Mathlib.Numerals.{add-one}
use native.Mathlib.Omega.{arith}
use lib.Bits.{bit_xor}
use lib.ListN.{length, get_or, set, length-set}
use Rattle.std.specs.List.{range_with_len}
use Rattle.std.proofs.lemmas.List.FromFn.{get_or-map-range_with_len}
use Rattle.bits.specs.Bits.{◌⊻◌}
use Rattle.keccak.specs.declared.TheConstants.{CONSTANTS}
use Rattle.keccak.specs.Lanes.{Lanes, theta, rho, pi, chi, iota, round, rounds, round_constant, permuted}

pub length-theta : (a : Lanes) → length (theta a) ≡ 25
unfolding theta
length-theta a = refl

pub length-rho : (a : Lanes) → length (rho a) ≡ 25
unfolding rho
length-rho a = refl

pub length-pi : (a : Lanes) → length (pi a) ≡ 25
unfolding pi
length-pi a = refl

pub length-chi : (a : Lanes) → length (chi a) ≡ 25
unfolding chi
length-chi a = refl

pub length-iota : (i : ℕ) (a : Lanes) → length (iota i a) ≡ length a
unfolding iota
length-iota i a = length-set a 0 _

pub length-round : (i : ℕ) (a : Lanes) → length (round i a) ≡ 25
unfolding round
length-round i a = length-iota i (chi (pi (rho (theta a)))) ∙ length-chi (pi (rho (theta a)))

pub length-rounds : (n : ℕ) (a : Lanes) → length a ≡ 25 → length (rounds n a) ≡ 25
unfolding rounds
length-rounds zero a h = h
length-rounds (suc n) a h = length-round n (rounds n a)

pub length-permuted : (a : Lanes) → length a ≡ 25 → length (permuted a) ≡ 25
unfolding permuted
length-permuted a h = length-rounds 24 a h

-- no round yet
pub rounds-none : (a : Lanes) → a ≡ rounds 0 a
unfolding rounds
rounds-none a = refl

-- the code's table has the number that the register gives for each round, which is computed
constants : map round_constant (range_with_len 0 24) ≡ CONSTANTS
unfolding round_constant ◌⊻◌
constants = refl

pub constant_at : (i : ℕ) → i < 24 → get_or CONSTANTS i 0 ≡ round_constant i
constant_at i h =
    ap (λ (l : List ℕ). get_or l i 0) (sym constants) ∙ get_or-map-range_with_len round_constant 0 24 i i 0 h (omega arith)

-- one round more, as the code does it
pub rounds-more : (a b c d e : Lanes) (i k : ℕ) → b ≡ rounds i a → c ≡ theta b → d ≡ pi (rho c) → e ≡ chi d → k ≡ round_constant i
    → set e 0 (bit_xor (get_or e 0 0) k) ≡ rounds (i + 1) a
unfolding rounds round iota
rounds-more a b c d e i k pb pc pd pe pk = rw (pk, add-one) (cc)
