-- Laws of the verdict: too few values, another challenge, or valid.
use mathlib.Core.Path.{◌≡◌, sym, ap, ◌∙◌}
use mathlib.Core.Bool.{true, false}
use Prim.Native.Nat.{ℕ}
use lib.ListN.{length, take}
use Rattle.std.proofs.Common.{Err}
use Rattle.slices.specs.Slices.{Bytes, part, equal}
use Rattle.sets.specs.declared.Set.{Set}
use Rattle.sets.specs.Lengths.{salt_length, header_length}
use Rattle.answers.specs.declared.Refusal.{Refusal}
use Rattle.answers.specs.declared.Refusal.TheVariants.{Blocks, Differs}
use Rattle.answers.specs.Answers.{Checked, Fine, first}
use Rattle.hashing.specs.Hashing.{h}
use Rattle.challenge.specs.Blocks.{too_few, first_values}
use Rattle.challenge.specs.Filling.{Fills}
use Rattle.challenge.proofs.BlocksLaws.{length-first}
use Rattle.challenge.proofs.FillingLaws.{fills_short, fills_full, fills_front}
use Rattle.views.specs.Input.{challenge_input}
use Rattle.verifier.specs.Verify.{verdict_checks}

-- ---- the checks

module _ (p : Set) (b : Bytes) (limit : ℕ) (es : Bytes) where
  abbrev answered : Checked
  answered = first (verdict_checks p b limit es)

  gives_blocks : too_few p b limit ≡ true → Err Blocks ≡ answered
  unfolding verdict_checks first
  gives_blocks e = rw e

  gives_differs : too_few p b limit ≡ false → equal (first_values p b limit) es ≡ false → Err Differs ≡ answered
  unfolding verdict_checks first
  gives_differs e d = rw (e, d)

  gives-fine : too_few p b limit ≡ false → equal (first_values p b limit) es ≡ true → Fine ≡ answered
  unfolding verdict_checks first
  gives-fine e d = rw (e, d)

-- ---- the verdict on values that were filled in

-- the first block of the challenge, by the salt that is lent
pub block_as : (p : Set) (filled s public message : Bytes) {salt : Bytes} → salt ≡ part s (header_length p) salt_length
    → h p 1 (challenge_input filled salt public message) ≡ h p 1 (challenge_input filled (part s (header_length p) salt_length) public message)
block_as p filled s public message e = ap (λ (x : Bytes). h p 1 (challenge_input filled x public message)) e

module _ {p : Set} {b b' : Bytes} {limit : ℕ} {before after : Bytes} {r : Checked} (es : Bytes) (q : b ≡ b') (f : Fills p b limit before r after) where
  pub verdict_short : {x : Refusal} → r ≡ Err x → Err x ≡ first (verdict_checks p b' limit es)
  verdict_short e =
      let few = fills_short f e in
      ap Err few.1 ∙ gives_blocks p b' limit es (ap (λ (x : Bytes). too_few p x limit) (sym q) ∙ few.0)

  pub verdict_differs : r ≡ Fine → equal (take p.t after) es ≡ false → Err Differs ≡ first (verdict_checks p b' limit es)
  verdict_differs e d =
      gives_differs p b' limit es (ap (λ (x : Bytes). too_few p x limit) (sym q) ∙ fills_full f e)
      (ap (λ (vs : Bytes). equal vs es) (sym (fills_front f e ∙ ap (λ (x : Bytes). first_values p x limit) q)) ∙ d)

  pub verdict_fine : r ≡ Fine → equal (take p.t after) es ≡ true → Fine ≡ first (verdict_checks p b' limit es)
  verdict_fine e d =
      gives-fine p b' limit es (ap (λ (x : Bytes). too_few p x limit) (sym q) ∙ fills_full f e)
      (ap (λ (vs : Bytes). equal vs es) (sym (fills_front f e ∙ ap (λ (x : Bytes). first_values p x limit) q)) ∙ d)

  -- the values fill T places
  pub values-long : r ≡ Fine → length (take p.t after) ≡ p.t
  values-long e = ap length (fills_front f e) ∙ length-first p b limit (fills_full f e)
