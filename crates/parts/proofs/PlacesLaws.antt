-- The places of a round's parts, and what stands there.
use mathlib.Core.Path.{◌≡◌, refl, sym, ap, ◌∙◌}
use Prim.Native.Nat.{ℕ, ◌+◌, ◌-◌, ◌≤◌, ◌<◌}
use native.Mathlib.Omega.{arith}
use lib.ListN.{length, get_or}
use Rattle.slices.specs.Slices.{Bytes, part}
use Rattle.sets.specs.declared.Set.{Set}
use Rattle.sets.specs.Lengths.{w, seed_width, transcript_length, salt_length, header_length, round_least}
use Rattle.shape.specs.Fields.{sizes}
use Rattle.shape.specs.Header.{value_at, values}
use Rattle.shape.specs.Rounds.{round_fields, signature_length, round_start}
use Rattle.shape.proofs.HeaderLaws.{length-values, get_d_values}
use Rattle.shape.proofs.RoundsLaws.{sizes_bounds, sizes-other, start_first, start-more, round-within}
use Rattle.shape.proofs.ShownLaws.{commitment_in_place, transcript_in_place, seed1_in_place, seed2_in_place, share_in_place, no_share}
use Rattle.parts.specs.declared.Parts.{Parts}
use Rattle.parts.specs.declared.Cursor.{Cursor}
use Rattle.parts.specs.Places.{parts_at, Ordered, Stands, Located}

-- a cursor at the first round stands
pub stands-first : (p : Set) (s : Bytes) (c : Cursor) → c.round ≡ 0 → c.at ≡ header_length p + salt_length → Stands p s c
stands-first p s c e a = a ∙ (sym (start_first p (values p s)) ∙ ap (round_start p (values p s)) (sym e))

-- from a place to the next
span : (s : Bytes) (a n e : ℕ) → a + n ≡ e → part s a (e - a) ≡ part s a n
span s a n e q = let d : e - a ≡ n = omega arith in ap (part s a) d

module _ (p : Set) (s : Bytes) (x : length s ≡ signature_length p (values p s)) (k v at : ℕ) (h : k < p.t) (ev : v ≡ value_at s k)
    (ea : at ≡ round_start p (values p s) k) where
  is_value : v ≡ get_or (values p s) k 0
  is_value = ev ∙ sym (get_d_values p s k h)

  size_there : sizes (round_fields p v) ≡ sizes (round_fields p (get_or (values p s) k 0))
  size_there = ap (λ (e : ℕ). sizes (round_fields p e)) is_value

  within : round_start p (values p s) k + sizes (round_fields p v) ≤ length s
  within = omega (arith, size_there, round-within p (values p s) k (omega (arith, length-values p s)))

  ordered : (at : ℕ) → at + sizes (round_fields p v) ≤ length s → Ordered (parts_at p v at) (length s)
  ordered at l =
      record {
        commitment = omega arith;
        transcript = omega arith;
        seed1 = omega arith;
        seed2 = omega arith;
        share = omega (arith, sizes_bounds p v);
        next = omega arith;
      }

  pub located : (q : Parts) → q ≡ parts_at p v at
      → Located p s k (record { value = v; parts = q; next = record { round = k + 1; at = q.next } })
  located q e =
      let st : ℕ = round_start p (values p s) k in
      let g : q ≡ parts_at p v st = e ∙ ap (parts_at p v) ea in
      record {
        value = is_value;
        placed = g;
        ordered = rw g (ordered st within);
        commitment = rw g (span s st p.digest (st + p.digest) refl ∙ sym (commitment_in_place p s x k h));
        transcript =
            rw g (span s (st + p.digest) (transcript_length p) (st + p.digest + transcript_length p) refl ∙ sym (transcript_in_place p s x k h));
        seed1 =
            rw g
            (span s (st + p.digest + transcript_length p) (seed_width p) (st + p.digest + transcript_length p + seed_width p) refl
            ∙ sym (seed1_in_place p s x k h));
        seed2 =
            rw g
            (span s (st + p.digest + transcript_length p + seed_width p) (seed_width p) (st + round_least p) (omega arith)
            ∙ sym (seed2_in_place p s x k h));
        share =
            λ z.
            rw g
            (span s (st + round_least p) (w p) (st + sizes (round_fields p v)) (omega (arith, sizes-other p v z))
            ∙ sym (share_in_place p s x k h (λ y. z (is_value ∙ y))));
        none = λ z. no_share p s x k h (sym is_value ∙ z);
        round = refl;
        stands = rw g (omega (arith, size_there, start-more p (values p s) k (omega (arith, length-values p s))));
      }
