-- A walk through the rounds of a signature: where the next one starts, and the padding of those passed.
use mathlib.Core.Path.{◌≡◌, refl, sym, ap, ◌∙◌}
use mathlib.Core.Bool.{Bool, true, false, not, and-true}
use mathlib.Core.List.{List}
use Prim.Native.Nat.{ℕ, ◌+◌, ◌≤◌, ◌<◌}
use native.Mathlib.Omega.{arith}
use lib.Dec.{eqb}
use lib.ListN.{length, take, drop, get_or}
use lib.Seq.{drop-drop, take-length}
use borrow.Author.Tests.{eqb-true, eqb-false}
use Rattle.slices.specs.Slices.{Bytes}
use Rattle.bits.specs.Bytes.{width}
use Rattle.sets.specs.declared.Set.{Set}
use Rattle.sets.specs.Sets.{IsSet}
use Rattle.sets.specs.Lengths.{salt_length, header_length, round_least, transcript_bits}
use Rattle.shape.specs.Fields.{sizes, zero_padded, clean}
use Rattle.shape.specs.Header.{value_at, values}
use Rattle.shape.specs.Rounds.{round_fields, rounds_fields, fields, signature_length, round_start}
use Rattle.shape.specs.Reading.{padding_wrong}
use Rattle.shape.proofs.PaddingLaws.{padded-whole, padded-bytes}
use Rattle.shape.proofs.HeaderLaws.{length-values, get_d_values}
use Rattle.shape.proofs.RoundsLaws.{signature-most, sizes_bounds, start_first, start-more, start-last, start-within, round-within}
use Rattle.shape.proofs.RoundLaws.{clean_zero, clean-other}
use Rattle.shape.proofs.FormLaws.{clean-more, clean_fails}
use Rattle.shape.proofs.SetFacts.{seeds-whole, shares_whole, some-gates, transcript_bits≤, longest≤}

-- ---- where rounds start

-- round k starts at a place
pub record Reached (p : Set) (s : Bytes) (at k : ℕ) : Type 0 where
  pub far : k ≤ p.t
  pub is : at ≡ round_start p (values p s) k

pub reached-first : (p : Set) (s : Bytes) (at : ℕ) → at ≡ header_length p + salt_length → Reached p s at 0
reached-first p s at e = record { far = omega arith; is = e ∙ sym (start_first p (values p s)) }

module _ {p : Set} {s : Bytes} {at k : ℕ} (r : Reached p s at k) where
  pub reached-more : k < p.t → (v n : ℕ) → v ≡ value_at s k → n ≡ sizes (round_fields p v) → Reached p s (at + n) (k + 1)
  reached-more h v n e g =
      let d : get_or (values p s) k 0 ≡ v = get_d_values p s k h ∙ sym e in
      record {
        far = omega arith;
        is =
            omega (
              arith,
              r.is,
              start-more p (values p s) k (omega (arith, length-values p s)),
              ap (λ (x : ℕ). sizes (round_fields p x)) d,
            );
      }

  -- the last round ends where the signature ends
  pub reached_end : p.t ≤ k → at ≡ signature_length p (values p s)
  reached_end h =
      let e : k ≡ length (values p s) = omega (arith, length-values p s, r.far) in
      r.is ∙ (ap (round_start p (values p s)) e ∙ start-last p (values p s))

  pub reached-most : IsSet p → at ≤ 132856
  reached-most q =
      omega (
        arith,
        r.is,
        r.far,
        start-within p (values p s) k (omega (arith, length-values p s, r.far)),
        signature-most p (values p s) (length-values p s),
        longest≤ q,
      )

  -- a round lies within the signature
  pub reached-within : k < p.t → length s ≡ signature_length p (values p s) → at + sizes (round_fields p (get_or (values p s) k 0)) ≤ length s
  reached-within h l = omega (arith, r.is, round-within p (values p s) k (omega (arith, length-values p s)))

  -- and so does its transcript, of m bits
  pub transcript-within : IsSet p → k < p.t → length s ≡ signature_length p (values p s) → (m : ℕ) → m ≡ transcript_bits p
      → (0 < m) × ((m ≤ 65536) × (at + p.digest + width m ≤ length s))
  transcript-within q h l m e =
      rw e (some-gates q, (omega (arith, transcript_bits≤ q), omega (arith, reached-within h l, sizes_bounds p (get_or (values p s) k 0))))

-- ---- the padding of rounds

-- seeds and shares are whole bytes: a round's padding is its transcript's
round-padding : {p : Set} → IsSet p → (e at : ℕ) (s : Bytes) → clean (round_fields p e) (drop at s) ≡ zero_padded (transcript_bits p) (drop (at + p.digest) s)
round-padding {p} q e at s = go (eqb e 0) refl
  where
    go : (b : Bool) → eqb e 0 ≡ b → clean (round_fields p e) (drop at s) ≡ zero_padded (transcript_bits p) (drop (at + p.digest) s)
    go true z = clean_zero p (seeds-whole q) e (drop at s) (eqb-true e 0 z) ∙ rw drop-drop
    go false z =
        clean-other p (seeds-whole q) e (drop at s) (eqb-false e 0 z)
        ∙ rw (padded-whole p.n (shares_whole q) (drop (round_least p) (drop at s)), and-true, drop-drop)

-- the padding of the rounds passed is zero
pub record Padded (p : Set) (s : Bytes) (at k : ℕ) : Type 0 where
  pub reached : Reached p s at k
  pub passed : clean (fields p (take k (values p s))) (drop (header_length p) s) ≡ true

pub padded-first : (p : Set) (s : Bytes) (at : ℕ) → at ≡ header_length p + salt_length → Padded p s at 0
unfolding clean rounds_fields
padded-first p s at e = record { reached = reached-first p s at e; passed = rw (padded-bytes salt_length (drop (header_length p) s)) }

module _ {p : Set} {s : Bytes} {at k : ℕ} (r : Padded p s at k) (q : IsSet p) (m : ℕ) (em : m ≡ transcript_bits p) where
  there : {b : Bool} → b ≡ zero_padded m (drop (at + p.digest) s)
      → clean (round_fields p (get_or (values p s) k 0)) (drop (round_start p (values p s) k) s) ≡ b
  there e =
      rw (← r.reached.is) (round-padding q (get_or (values p s) k 0) at s ∙ sym
      (e ∙ ap (λ (n : ℕ). zero_padded n (drop (at + p.digest) s)) em))

  pub padded-more : k < p.t → true ≡ zero_padded m (drop (at + p.digest) s) → (v n : ℕ) → v ≡ value_at s k → n ≡ sizes (round_fields p v)
      → Padded p s (at + n) (k + 1)
  padded-more h b v n e g =
      record {
        reached = reached-more r.reached h v n e g;
        passed =
            clean-more p (values p s) k (omega (arith, length-values p s)) s r.passed (there b);
      }

  pub padded_fails : k < p.t → false ≡ zero_padded m (drop (at + p.digest) s) → true ≡ padding_wrong p s
  unfolding padding_wrong
  padded_fails h b = ap not (sym (clean_fails p (values p s) k (omega (arith, length-values p s)) s (there b)))

  pub padded_end : p.t ≤ k → false ≡ padding_wrong p s
  unfolding padding_wrong
  padded_end h =
      let l : k ≡ length (values p s) = omega (arith, length-values p s, r.reached.far) in
      let e : take k (values p s) ≡ values p s = ap (λ (n : ℕ). take n (values p s)) l ∙ take-length (values p s) in
      ap not (sym (ap (λ (es : List ℕ). clean (fields p es) (drop (header_length p) s)) (sym e) ∙ r.passed))
