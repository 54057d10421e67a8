-- Laws of the blocks of a challenge: what more blocks add, and which number of blocks is the fewest.
use mathlib.Core.Path.{◌≡◌, refl, sym, ap, ◌∙◌}
use mathlib.Core.Bool.{Bool, true, false, cond}
use mathlib.Core.List.{[], ◌∷◌, ◌++◌, append_assoc}
use Prim.Native.Nat.{ℕ, zero, suc, ◌+◌, ◌-◌, ◌*◌, ◌≤◌, ◌<◌}
use native.Mathlib.Omega.{arith}
use lib.ListN.{length, take, drop, get_or, length-append, take-append-drop}
use lib.Seq.{length-take-le, take-append-le}
use borrow.Author.Tests.{lt-ltb, le-ltb, ltb-true, ltb-false}
use Rattle.slices.specs.Slices.{Bytes, joined}
use Rattle.slices.proofs.SliceLaws.{joined-add}
use Rattle.sets.specs.declared.Set.{Set}
use Rattle.hashing.specs.Hashing.{h}
use Rattle.challenge.specs.Pairs.{pair, value_of, values_to, all_values}
use Rattle.challenge.specs.Blocks.{chain, stream, stream_values, too_few, first_values, used, Fewest, UsedAreFewest}
use Rattle.challenge.proofs.PairsLaws.{values_front, values-append, values-small}

-- ---- blocks

pub chain_first : (p : Set) (b : Bytes) → b ≡ chain p b 0
unfolding chain
chain_first p b = refl

pub chain_next : (p : Set) (b : Bytes) (k : ℕ) → h p 1 (chain p b k) ≡ chain p b (suc k)
unfolding chain
chain_next p b k = refl

-- ---- a string that starts another

pub record Starts (xs vs : Bytes) : Type 0 where
  pub rest : Bytes
  pub split : vs ≡ xs ++ rest

pub starts-length : {xs vs : Bytes} → Starts xs vs → length xs ≤ length vs
starts-length {xs} s = omega (arith, ap length s.split, length-append xs s.rest)

starts_trans : {xs ys zs : Bytes} → Starts xs ys → Starts ys zs → Starts xs zs
starts_trans {xs} s t =
    record {
      rest = s.rest ++ t.rest;
      split = t.split ∙ ap (λ (l : Bytes). l ++ t.rest) s.split ∙ append_assoc xs s.rest t.rest;
    }

starts-behind : (xs : Bytes) {ys zs : Bytes} → Starts ys zs → Starts (xs ++ ys) (xs ++ zs)
starts-behind xs {ys} s =
    record { rest = s.rest; split = ap (λ (l : Bytes). xs ++ l) s.split ∙ sym (append_assoc xs ys s.rest) }

-- ---- the values of a number of blocks

pub in_none : (p : Set) (b : Bytes) → stream_values p b 0 ≡ []
unfolding stream_values stream joined all_values values_to
in_none p b = refl

-- one block more
pub in_next : (p : Set) (b : Bytes) (n : ℕ) → stream_values p b (suc n) ≡ stream_values p b n ++ all_values (chain p b n)
unfolding stream_values stream joined
in_next p b n = values-append (joined n (chain p b)) (chain p b n)

-- the values of fewer blocks come first
pub in_starts : (p : Set) (b : Bytes) (n m : ℕ) → n ≤ m → Starts (stream_values p b n) (stream_values p b m)
unfolding stream_values stream
in_starts p b n m le =
    let k = m - n in
    let e : m ≡ n + k = omega arith in
    record {
      rest = all_values (joined k (λ i. chain p b (n + i)));
      split =
          ap (λ (i : ℕ). all_values (joined i (chain p b))) e
          ∙ (ap all_values (joined-add (chain p b) n k) ∙ values-append (joined n (chain p b)) (joined k (λ i. chain p b (n + i))));
    }

-- the first k pairs of a string start its values
to_starts : (l : Bytes) (k : ℕ) → k ≤ 4 * length l → Starts (values_to k l) (all_values l)
unfolding all_values values_to
to_starts l k le =
    let m = 4 * length l - k in
    let e : 4 * length l ≡ k + m = omega arith in
    record {
      rest = joined m (λ i. value_of (pair l (k + i)));
      split = ap (λ (i : ℕ). joined i (λ j. value_of (pair l j))) e ∙ joined-add (λ j. value_of (pair l j)) k m;
    }

-- ---- block n, read from the first bytes of an array a

module _ (p : Set) (b a : Bytes) (n : ℕ) (e : take p.digest a ≡ chain p b n) (l : p.digest ≤ length a) where
  pairs_there : length (take p.digest a) ≡ p.digest
  pairs_there = length-take-le p.digest a l

  its_own : (k : ℕ) → k ≤ 4 * p.digest → values_to k a ≡ values_to k (chain p b n)
  its_own k le =
      ap (values_to k) (sym (take-append-drop p.digest a))
      ∙ (values_front (take p.digest a) (drop p.digest a) k (omega (arith, pairs_there)) ∙ ap (values_to k) e)

  -- read to its end
  pub in_block : (k : ℕ) → k ≡ 4 * p.digest → stream_values p b n ++ values_to k a ≡ stream_values p b (suc n)
  unfolding all_values
  in_block k end =
      let q : k ≡ 4 * length (chain p b n) = omega (arith, pairs_there, ap length e) in
      ap (λ (x : Bytes). stream_values p b n ++ x) (its_own k (omega arith) ∙ ap (λ (i : ℕ). values_to i (chain p b n)) q) ∙ sym (in_next p b n)

  -- read to its pair k, where at least one block more is allowed
  pub in_part : (k m : ℕ) → k ≤ 4 * p.digest → n < m → Starts (stream_values p b n ++ values_to k a) (stream_values p b m)
  in_part k m le more =
      let s : Starts (values_to k (chain p b n)) (all_values (chain p b n)) = to_starts (chain p b n) k (omega (arith, pairs_there, ap length e)) in
      rw (its_own k le)
      (starts_trans (starts-behind (stream_values p b n) s) (rw (in_next p b n) at (in_starts p b (suc n) m (omega arith))))

-- ---- fewer than T values

-- in fewer blocks too
pub few_before : (p : Set) (b : Bytes) (n m : ℕ) → n ≤ m → too_few p b m ≡ true → too_few p b n ≡ true
unfolding too_few
few_before p b n m le e =
    lt-ltb (length (stream_values p b n)) p.t
    (omega (arith, starts-length (in_starts p b n m le), ltb-true (length (stream_values p b m)) p.t e))

module _ (p : Set) (b : Bytes) (n : ℕ) (e : too_few p b n ≡ false) where
  enough : p.t ≤ length (stream_values p b n)
  unfolding too_few
  enough = ltb-false (length (stream_values p b n)) p.t e

  -- T values are given
  pub length-first : length (first_values p b n) ≡ p.t
  unfolding first_values
  length-first = length-take-le p.t (stream_values p b n) enough

  -- more blocks are enough too
  pub enough_after : (m : ℕ) → n ≤ m → too_few p b m ≡ false
  unfolding too_few
  enough_after m le = le-ltb (length (stream_values p b m)) p.t (omega (arith, enough, starts-length (in_starts p b n m le)))

  -- and give the same first T
  pub first_after : (m : ℕ) → n ≤ m → first_values p b m ≡ first_values p b n
  unfolding first_values
  first_after m le =
      let s = in_starts p b n m le in
      ap (take p.t) s.split ∙ take-append-le p.t (stream_values p b n) s.rest enough

take-small : (n : ℕ) (l : Bytes) → ((i : ℕ) → get_or l i 0 < 3) → (i : ℕ) → get_or (take n l) i 0 < 3
take-small zero l f i = omega arith
take-small (suc n) [] f i = omega arith
take-small (suc n) (x ∷ l) f zero = f zero
take-small (suc n) (x ∷ l) f (suc i) = take-small n l (λ j. f (suc j)) i

-- each is 0, 1 or 2
pub first_small : (p : Set) (b : Bytes) (n i : ℕ) → get_or (first_values p b n) i 0 < 3
unfolding first_values stream_values
first_small p b n = take-small p.t (all_values (stream p b n)) (values-small (stream p b n))

-- ---- the fewest blocks

used-more : (p : Set) (b : Bytes) (n : ℕ) (few : Bool) → too_few p b n ≡ few → too_few p b (suc n) ≡ false
    → (too_few p b n ≡ false → (used p b n ≤ n) × Fewest p b (used p b n))
    → (cond few (suc n) (used p b n) ≤ suc n) × Fewest p b (cond few (suc n) (used p b n))
used-more p b n true e d g = (omega arith, record { enough = d; fewer = λ i l. few_before p b i n (omega arith) e })
used-more p b n false e d g = (omega (arith, (g e).0), (g e).1)

pub used_are_fewest : UsedAreFewest
unfolding UsedAreFewest used
used_are_fewest p b zero e = (omega arith, record { enough = e; fewer = λ i l. absurd (omega arith) })
used_are_fewest p b (suc n) e = used-more p b n (too_few p b n) refl e (used_are_fewest p b n)
