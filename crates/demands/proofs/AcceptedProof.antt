-- Demand 3, first half: no check of verifying holds for a signature that signing has written.
use mathlib.Core.Path.{◌≡◌, ap, ◌∙◌}
use mathlib.Core.List.{List, ◌++◌}
use Prim.Native.Nat.{ℕ}
use lib.ListN.{length}
use borrow.Author.Tests.{le-ltb}
use Rattle.std.proofs.Common.{Some}
use Rattle.slices.specs.Slices.{Bytes}
use Rattle.slices.proofs.EqualLaws.{equal_self}
use Rattle.sets.specs.declared.Set.{Set}
use Rattle.sets.specs.Sets.{numbered}
use Rattle.sets.specs.Lengths.{room_length}
use Rattle.sets.proofs.Each.{known_set}
use Rattle.answers.specs.Answers.{Checked, Fine, Check, first, answer}
use Rattle.answers.proofs.AnswersLaws.{group_skip}
use Rattle.hashing.specs.Hashing.{h}
use Rattle.challenge.specs.Blocks.{first_values}
use Rattle.challenge.proofs.BlocksLaws.{length-first, enough_after, first_after, first_small}
use Rattle.challenge.proofs.LimitsProof.{larger_legal}
use Rattle.shape.specs.Form.{form, values_in}
use Rattle.shape.specs.Reading.{read_checks}
use Rattle.signer.specs.Sign as sign
use Rattle.verifier.specs.Verify as verify
use Rattle.demands.specs.Sound.{Reread}
use Rattle.demands.specs.Accepted.{again, Enough, SignedIsAccepted, VerifyingAnswersZero}
use Rattle.demands.proofs.SigningLaws.{Passed, passed, made, answered-bytes, length_alone}
use Rattle.demands.proofs.HonestRunsProof.{reread}

-- groups of checks that pass one after the other
both_pass : (xs ys : List Check) → first xs ≡ Fine → first ys ≡ Fine → first (xs ++ ys) ≡ Fine
both_pass xs ys e d = group_skip xs ys e ∙ d

module _ (p : Set) (g : sign.Given) (known : numbered g.set_number ≡ Some p) (s : Passed p g)
    (limit : ℕ) (room : Bytes) (n : Enough g limit room) where
  abbrev es : Bytes
  es = first_values p (sign.first_block p g) g.limit

  again-read : Reread p (sign.cipher p g) g.secret g.public g.seeds g.message es
  again-read =
      reread (known_set g.set_number p known) g.keys g.layers g.constants g.secret g.public g.seeds g.message es s.pair
      s.seeds (length-first p (sign.first_block p g) g.limit s.enough) (first_small p (sign.first_block p g) g.limit)

  abbrev signature : Bytes
  signature = sign.signature_for p (sign.cipher p g) g.secret g.public g.seeds es

  -- the recomputed challenge begins with the signer's first block
  block_again : verify.first_block p g.keys g.layers g.constants g.public g.message (form p signature) ≡ sign.first_block p g
  unfolding verify.first_block sign.first_block
  block_again = ap (h p 1) again-read.run.recomputed

  -- 2 to 6 pass
  lengths_pass : first
      (verify.length_checks p (length g.keys) (length g.layers) (length g.constants) (length g.public) (length g.message)
      limit (length room))
      ≡ Fine
  unfolding verify.length_checks first
  lengths_pass =
      rw (
        s.tables,
        s.public,
        s.message,
        larger_legal g.limit limit s.limit n.more n.legal,
        le-ltb (length room) (room_length p) (n.suffices p known),
      )

  -- 8 and 12 pass
  verdict_passes : first (verify.verdict_checks p (sign.first_block p g) limit (values_in p (form p signature))) ≡ Fine
  unfolding verify.verdict_checks first
  verdict_passes =
      let b = sign.first_block p g in
      let e : first_values p b limit ≡ es = first_after p b g.limit s.enough limit n.more in
      rw (enough_after p b g.limit s.enough limit n.more, again-read.values, e, equal_self es)

  pub all_pass : first (verify.checks p (again g limit room signature)) ≡ Fine
  unfolding verify.checks verify.length_checks read_checks
  all_pass = both_pass _ _ lengths_pass (both_pass _ _ again-read.read (rw block_again verdict_passes))

pub signed_is_accepted : SignedIsAccepted
unfolding SignedIsAccepted verify.refusal_for sign.signature_of
signed_is_accepted g number room output s f limit other n =
    let m = made g f in
    rw (answered-bytes g number room output s f m, m.known)
    (all_pass m.p g m.known (passed m.p g m.none) limit other n)

pub verifying_answers_zero : VerifyingAnswersZero
unfolding VerifyingAnswersZero SignedIsAccepted
verifying_answers_zero g number room output s l limit other n a left v =
    v.answered
    ∙ ap (λ (c : Checked). answer c 0) (signed_is_accepted g number room output s (length_alone g number room output s l) limit other n)
