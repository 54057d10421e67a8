-- Laws of what stands behind the header: lengths, where rounds start, and the fields round by round.
use mathlib.Core.Path.{◌≡◌, refl, sym, ap, ◌∙◌}
use mathlib.Core.Bool.{Bool, true, false}
use mathlib.Core.List.{List, [], ◌∷◌, ◌++◌, append_assoc, append-nil}
use Prim.Native.Nat.{ℕ, ◌+◌, ◌*◌, ◌≤◌, ◌<◌}
use native.Mathlib.Omega.{arith}
use native.Mathlib.Numerals.{add-one}
use native.Mathlib.Nat.{suc-mul, zero-mul}
use lib.Dec.{eqb}
use lib.ListN.{length, take, drop, get_or, take-append-drop}
use lib.Seq.{take-suc, take-length}
use borrow.Author.Tests.{eq-eqb, ne_eqb, eqb-true, eqb-false}
use Rattle.bits.specs.Bytes.{width}
use Rattle.sets.specs.declared.Set.{Set}
use Rattle.sets.specs.Lengths.{salt_length, header_length, round_least, round_most, longest}
use Rattle.shape.specs.Fields.{Field, sizes}
use Rattle.shape.specs.Rounds.{always, round_fields, rounds_fields, fields, signature_length, round_start}
use Rattle.shape.proofs.PaddingLaws.{width-whole}
use Rattle.shape.proofs.FieldLaws.{slots, sizes-append, slots_append}

width-none : width 0 ≡ 0
unfolding width
width-none = refl

-- ---- one round

module _ (p : Set) (e : ℕ) where
  digest : width (8 * p.digest) ≡ p.digest
  digest = width-whole p.digest

  -- every round has the same slots
  pub slots_round : slots (round_fields p e) ≡ round_most p
  unfolding slots round_fields
  slots_round = go (eqb e 0) refl
    where
      go : (b : Bool) → eqb e 0 ≡ b → slots (round_fields p e) ≡ round_most p
      go true z = rw z (omega (arith, digest, width-none))
      go false z = rw z (omega (arith, digest))

  -- in a signature it has the share or has it not
  pub sizes_zero : e ≡ 0 → sizes (round_fields p e) ≡ round_least p
  unfolding sizes round_fields
  sizes_zero z = rw (eq-eqb e 0 z) (omega (arith, digest, width-none))

  pub sizes-other : (e ≡ 0 → ⊥) → sizes (round_fields p e) ≡ round_most p
  unfolding sizes round_fields
  sizes-other z = rw (ne_eqb e 0 z) (omega (arith, digest))

  pub sizes_bounds : (round_least p ≤ sizes (round_fields p e)) × (sizes (round_fields p e) ≤ round_most p)
  sizes_bounds = go (eqb e 0) refl
    where
      go : (b : Bool) → eqb e 0 ≡ b → (round_least p ≤ sizes (round_fields p e)) × (sizes (round_fields p e) ≤ round_most p)
      go true z = (omega (arith, sizes_zero (eqb-true e 0 z)), omega (arith, sizes_zero (eqb-true e 0 z)))
      go false z = (omega (arith, sizes-other (eqb-false e 0 z)), omega (arith, sizes-other (eqb-false e 0 z)))

-- ---- all rounds

module _ (p : Set) where
  pub rounds-append : (es fs : List ℕ) → rounds_fields p (es ++ fs) ≡ rounds_fields p es ++ rounds_fields p fs
  unfolding rounds_fields
  rounds-append [] fs = refl
  rounds-append (e ∷ es) fs = rw (rounds-append es fs) (sym (append_assoc (round_fields p e) (rounds_fields p es) (rounds_fields p fs)))

  pub slots_rounds : (es : List ℕ) → slots (rounds_fields p es) ≡ length es * round_most p
  unfolding slots rounds_fields
  slots_rounds [] = sym (zero-mul (round_most p))
  slots_rounds (e ∷ es) =
      omega (arith, slots_append (rounds_fields p es) (round_fields p e), slots_round p e, slots_rounds es, suc-mul (length es) (round_most p))

  pub slots_fields : (es : List ℕ) → slots (fields p es) ≡ salt_length + length es * round_most p
  unfolding slots
  slots_fields es = omega (arith, slots_rounds es, width-whole salt_length)

  pub sizes-fields : (es : List ℕ) → sizes (fields p es) ≡ salt_length + sizes (rounds_fields p es)
  unfolding sizes
  sizes-fields es = omega (arith, width-whole salt_length)

  sizes-most : (es : List ℕ) → sizes (rounds_fields p es) ≤ length es * round_most p
  unfolding sizes rounds_fields
  sizes-most [] = omega arith
  sizes-most (e ∷ es) =
      omega (arith, sizes-append (rounds_fields p es) (round_fields p e), sizes_bounds p e, sizes-most es, suc-mul (length es) (round_most p))

  pub signature-most : (es : List ℕ) → length es ≡ p.t → signature_length p es ≤ longest p
  signature-most es e = omega (arith, sizes-fields es, sizes-most es, ap (λ (n : ℕ). n * round_most p) e)

-- ---- round by round

module _ (p : Set) (es : List ℕ) (k : ℕ) (h : k < length es) where
  pub rounds-more : rounds_fields p (take (k + 1) es) ≡ rounds_fields p (take k es) ++ round_fields p (get_or es k 0)
  unfolding rounds_fields
  rounds-more =
      rw (add-one, take-suc es k 0 h, rounds-append p (take k es) (get_or es k 0 ∷ []))
      (ap (λ (l : List Field). rounds_fields p (take k es) ++ l) (append-nil (round_fields p (get_or es k 0))))

  pub fields-more : fields p (take (k + 1) es) ≡ fields p (take k es) ++ round_fields p (get_or es k 0)
  fields-more = ap (λ (l : List Field). always (8 * salt_length) ∷ l) rounds-more

  -- round k among all fields
  pub fields_around : fields p es ≡ fields p (take k es) ++ round_fields p (get_or es k 0) ++ rounds_fields p (drop (k + 1) es)
  fields_around =
      ap (λ (l : List ℕ). fields p l) (sym (take-append-drop (k + 1) es))
      ∙ (ap (λ (l : List Field). always (8 * salt_length) ∷ l) (rounds-append p (take (k + 1) es) (drop (k + 1) es))
      ∙ ap (λ (l : List Field). l ++ rounds_fields p (drop (k + 1) es)) fields-more)

  pub start-more : round_start p es (k + 1) ≡ round_start p es k + sizes (round_fields p (get_or es k 0))
  start-more = omega (arith, ap sizes fields-more, sizes-append (round_fields p (get_or es k 0)) (fields p (take k es)))

pub start_first : (p : Set) (es : List ℕ) → round_start p es 0 ≡ header_length p + salt_length
unfolding rounds_fields sizes
start_first p es = omega (arith, width-whole salt_length)

pub start-last : (p : Set) (es : List ℕ) → round_start p es (length es) ≡ signature_length p es
start-last p es = rw take-length

pub start-within : (p : Set) (es : List ℕ) (k : ℕ) → k ≤ length es → round_start p es k ≤ signature_length p es
start-within p es k h =
    omega (
      arith,
      sizes-fields p (take k es),
      sizes-fields p es,
      ap sizes (ap (rounds_fields p) (sym (take-append-drop k es)) ∙ rounds-append p (take k es) (drop k es)),
      sizes-append (rounds_fields p (drop k es)) (rounds_fields p (take k es)),
    )

-- a round lies within the signature
pub round-within : (p : Set) (es : List ℕ) (k : ℕ) → k < length es → round_start p es k + sizes (round_fields p (get_or es k 0)) ≤ signature_length p es
round-within p es k h = rw (← (start-more p es k h)) (start-within p es (k + 1) (omega arith))
