-- How a slice is filled with values, one after the other, until place T is filled or all allowed blocks are read.
use mathlib.Core.Path.{◌≡◌, refl, sym, ap, ◌∙◌}
use mathlib.Core.Logic.{◌⊎◌, inl, inr, ⊎_elim}
use mathlib.Core.Bool.{Bool, true, false, cond}
use mathlib.Core.List.{[], ◌∷◌, ◌++◌, append-nil, append_assoc}
use Prim.Native.Nat.{ℕ, ◌+◌, ◌*◌, ◌≤◌, ◌<◌}
use native.Mathlib.Omega.{arith}
use lib.ListN.{length, take, drop, set, length-append}
use lib.Seq.{take_all, take_at}
use borrow.Author.Tests.{lt-ltb, le-ltb}
use Rattle.slices.specs.Slices.{Bytes, over}
use Rattle.slices.proofs.SliceLaws.{length_over, over_none, over_store}
use Rattle.sets.specs.declared.Set.{Set}
use Rattle.std.proofs.Common.{Err}
use Rattle.answers.specs.declared.Refusal.{Refusal}
use Rattle.answers.specs.declared.Refusal.TheVariants.{Blocks}
use Rattle.answers.specs.Answers.{Checked, Fine}
use Rattle.challenge.specs.Pairs.{pair, value_of, values_to}
use Rattle.challenge.specs.Blocks.{chain, stream_values, too_few, first_values}
use Rattle.challenge.specs.Filling.{Fills}
use Rattle.challenge.proofs.PairsLaws.{values-none, values-next, value_skipped, value-given}
use Rattle.challenge.proofs.BlocksLaws.{Starts, starts-length, in_starts, in_part, length-first}

-- the values xs are written, and place t is not filled
pub record Filling (t : ℕ) (xs : Bytes) (got : ℕ) (before after : Bytes) : Type 0 where
  pub fits : t ≤ length before
  pub count : got ≡ length xs
  pub wrote : after ≡ over xs before
  pub below : got < t

pub filling-none : {t : ℕ} {before : Bytes} → 0 < t → t ≤ length before → Filling t [] 0 before before
filling-none {t} {before} h f = record { fits = f; count = refl; wrote = over_none before; below = h }

module _ {t : ℕ} {xs : Bytes} {got : ℕ} {before after : Bytes} (f : Filling t xs got before after) where
  -- the slice keeps its length
  filling-size : length after ≡ length before
  filling-size = ap length f.wrote ∙ length_over xs before (omega (arith, f.count, f.below, f.fits))

  -- there is a place for one value more
  pub filling-room : got < length after
  filling-room = omega (arith, filling-size, f.below, f.fits)

  -- no pair of a block is read
  pub filling-start : (l : Bytes) → Filling t (xs ++ values_to 0 l) got before after
  filling-start l =
      let e : xs ++ values_to 0 l ≡ xs = ap (λ (x : Bytes). xs ++ x) (values-none l) ∙ append-nil xs in
      rw e f

-- pair j of l, read behind the values xs, is v and gives vs
read_on : (xs l : Bytes) (j v : ℕ) → v ≡ pair l j → (vs : Bytes) → value_of v ≡ vs → xs ++ values_to (j + 1) l ≡ (xs ++ values_to j l) ++ vs
read_on xs l j v is vs e =
    ap (λ (x : Bytes). xs ++ x) (values-next j l ∙ ap (λ (x : Bytes). values_to j l ++ x) (ap value_of (sym is) ∙ e))
    ∙ sym (append_assoc xs (values_to j l) vs)

-- the count and the slice go on to got' and after'
module _ (xs l : Bytes) (j v : ℕ) (is : v ≡ pair l j) {t got got' : ℕ} {before after after' : Bytes} (f : Filling t (xs ++ values_to j l) got before after)
  where
    -- a pair 11 is passed
    pub filling_skip : 3 ≤ v → got' ≡ got → after' ≡ after → Filling t (xs ++ values_to (j + 1) l) got' before after'
    filling_skip n eg ea = rw (read_on xs l j v is [] (value_skipped v n) ∙ append-nil (xs ++ values_to j l), eg, ea) f

    -- the value of another pair is stored
    module _ (n : v < 3) (eg : got' ≡ got + 1) (ea : after' ≡ set after got v) where
      pub stored_count : got' ≡ length (xs ++ values_to (j + 1) l)
      stored_count =
          rw (read_on xs l j v is (v ∷ []) (value-given v n)) (omega (arith, eg, f.count, length-append (xs ++ values_to j l) (v ∷ [])))

      pub stored_wrote : after' ≡ over (xs ++ values_to (j + 1) l) before
      stored_wrote =
          rw (read_on xs l j v is (v ∷ []) (value-given v n), ea, f.wrote, f.count)
          (over_store (xs ++ values_to j l) before v (omega (arith, f.count, f.below, f.fits)))

      -- and does not fill place t
      pub filling_store : (got + 1 ≡ t → ⊥) → Filling t (xs ++ values_to (j + 1) l) got' before after'
      filling_store o =
          record { fits = f.fits; count = stored_count; wrote = stored_wrote; below = omega (arith, eg, o, f.below) }

-- reading has ended: place t is filled, or the values vs are all read
pub record Ended (t : ℕ) (vs : Bytes) (got : ℕ) (before after : Bytes) : Type 0 where
  pub xs : Bytes
  pub starts : Starts xs vs
  pub fits : t ≤ length before
  pub count : got ≡ length xs
  pub wrote : after ≡ over xs before
  pub why : (got ≡ t) ⊎ ((vs ≡ xs) × (got < t))

-- all of m blocks are read, and place T is not filled
pub ended_all : (p : Set) (b : Bytes) (n m : ℕ) → n ≡ m → {got got' : ℕ} {before after after' : Bytes}
    → Filling p.t (stream_values p b n) got before after → got' ≡ got → after' ≡ after → Ended p.t (stream_values p b m) got' before after'
ended_all p b n m e f eg ea =
    rw (← e, eg, ea)
    (record {
      xs = stream_values p b n;
      starts = in_starts p b n n (omega arith);
      fits = f.fits;
      count = f.count;
      wrote = f.wrote;
      why = inr (refl, f.below);
    })

-- pair j of block n, in the array a, fills place T
module _ (p : Set) (b a : Bytes) (n : ℕ) (e : take p.digest a ≡ chain p b n) (l : p.digest ≤ length a) where
  pub ended_at : (j v m : ℕ) → v ≡ pair a j → j < 4 * p.digest → n < m → {got got' : ℕ} {before after after' : Bytes}
      → Filling p.t (stream_values p b n ++ values_to j a) got before after → v < 3 → got' ≡ got + 1 → after' ≡ set after got v → got + 1 ≡ p.t
      → Ended p.t (stream_values p b m) got' before after'
  ended_at j v m is h k f s eg ea full =
      record {
        xs = stream_values p b n ++ values_to (j + 1) a;
        starts = in_part p b a n e l (j + 1) m (omega arith) k;
        fits = f.fits;
        count = stored_count (stream_values p b n) a j v is f s eg ea;
        wrote = stored_wrote (stream_values p b n) a j v is f s eg ea;
        why = inl (eg ∙ full);
      }

module _ {t : ℕ} {vs : Bytes} {got : ℕ} {before after : Bytes} (f : Ended t vs got before after) where
  most : got ≤ t
  most = ⊎_elim (λ (w : got ≡ t). omega arith) (λ (w : (vs ≡ f.xs) × (got < t)). omega (arith, w.1)) f.why

  pub ended_size : length after ≡ length before
  ended_size = ap length f.wrote ∙ length_over f.xs before (omega (arith, most, f.count, f.fits))

module _ (p : Set) (b : Bytes) (limit : ℕ) {got : ℕ} {before after : Bytes} (f : Ended p.t (stream_values p b limit) got before after) where
  pub ended_short : got < p.t → Fills p b limit before (Err Blocks) after
  unfolding too_few first_values
  ended_short h =
      let vs = stream_values p b limit in
      let e : vs ≡ f.xs = ⊎_elim (λ (w : got ≡ p.t). absurd (omega arith)) (λ (w : (vs ≡ f.xs) × (got < p.t)). w.0) f.why in
      let l : length vs < p.t = omega (arith, ap length e, f.count) in
      record {
        answered = rw (lt-ltb (length vs) p.t l);
        left = f.wrote ∙ ap (λ (x : Bytes). over x before) (sym (take_all p.t vs (omega arith) ∙ e));
      }

  pub ended_full : p.t ≤ got → Fills p b limit before Fine after
  unfolding too_few first_values
  ended_full h =
      let vs = stream_values p b limit in
      let l : length f.xs ≡ p.t = omega (arith, most f, f.count) in
      let n : p.t ≤ length vs = omega (arith, starts-length f.starts) in
      record {
        answered = rw (le-ltb (length vs) p.t n);
        left = f.wrote ∙ ap (λ (x : Bytes). over x before) (sym (ap (take p.t) f.starts.split ∙ take_at f.xs f.starts.rest p.t l));
      }

-- ---- what a caller gets

is_few : (b : Bool) {x : Refusal} → ◌≡◌ {A = Checked} (cond b (Err Blocks) Fine) (Err x) → (b ≡ true) × (x ≡ Blocks)
is_few true {x} e = (refl, cc)
is_few false {x} e = cc

is_enough : (b : Bool) → ◌≡◌ {A = Checked} (cond b (Err Blocks) Fine) Fine → b ≡ false
is_enough true e = cc
is_enough false e = refl

module _ {p : Set} {b : Bytes} {limit : ℕ} {before after : Bytes} {r : Checked} (f : Fills p b limit before r after) where
  -- where it refuses
  pub fills_short : {x : Refusal} → r ≡ Err x → (too_few p b limit ≡ true) × (x ≡ Blocks)
  fills_short e = is_few (too_few p b limit) (sym f.answered ∙ e)

  -- and where not
  pub fills_full : r ≡ Fine → too_few p b limit ≡ false
  fills_full e = is_enough (too_few p b limit) (sym f.answered ∙ e)

  -- the first T bytes of the slice
  pub fills_front : r ≡ Fine → take p.t after ≡ first_values p b limit
  unfolding over
  fills_front e =
      rw f.left
      (take_at (first_values p b limit) (drop (length (first_values p b limit)) before) p.t (length-first p b limit (fills_full e)))
