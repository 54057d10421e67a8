-- `verifier::verify` meets its contract.
use mathlib.Core.Path.{refl, sym, ap, ◌∙◌}
use Rattle.sets.proofs.Each.{known_set}
use Rattle.answers.specs.Answers.{Checked, answer}
use Rattle.answers.proofs.OutcomeLaws.{handed_on, no_such_set}
use Rattle.verifier.proofs.VerifyLaws.{handed, fitting, no_set, stopped, unread, judged}
use Rattle.verifier.proofs.verify.Goals as goal

pub returns-in_err-p : goal.returns-in_err-p
returns-in_err-p c =
    no_set _ _ (sym c.numbered.ensures ∙ c.in_err-p.ensures.ok_part)
    (ap (λ (r : Checked). answer r 0) (no_such_set _ c.in_err-p.ensures.ok_part c.in_err-p.ensures.value c.from_residual.ensures.1))

pub check_lengths-requires : goal.check_lengths-requires
check_lengths-requires c = known_set c.args.set _ (sym c.numbered.ensures ∙ c.in_ok-p.ensures.ok_part)

pub returns-in_err-check_lengths : goal.returns-in_err-check_lengths
returns-in_err-check_lengths c =
    stopped _ _ (sym c.numbered.ensures ∙ c.in_ok-p.ensures.ok_part) (sym c.in_err-check_lengths.ensures)
    (ap (λ (r : Checked). answer r 0) (handed_on _ c.from_residual-in_err-check_lengths.ensures.1))

pub check-requires : goal.check-requires
check-requires c = known_set c.args.set _ (sym c.numbered.ensures ∙ c.in_ok-p.ensures.ok_part)

pub invariant_of-verifying : goal.invariant_of-verifying
invariant_of-verifying c =
    let a = c.args in
    let g = handed 0 a.keys.now a.layers.now a.constants.now a.public.now a.message.now a.limit a.room.now a.signature.now in
    record {
      public_long = (fitting (known_set a.set _ (sym c.numbered.ensures ∙ c.in_ok-p.ensures.ok_part)) g (sym c.in_ok-check_lengths.ensures)).public-long;
      reads = sym c.in_ok-check.ensures;
    }

pub returns-in_err-check : goal.returns-in_err-check
returns-in_err-check c =
    unread _ _ (sym c.numbered.ensures ∙ c.in_ok-p.ensures.ok_part) (sym c.in_ok-check_lengths.ensures) (sym c.in_err-check.ensures)
    (ap (λ (r : Checked). answer r 0) (handed_on _ c.from_residual-in_err-check.ensures.1))

pub invariant_of-tables : goal.invariant_of-tables
invariant_of-tables c =
    let a = c.args in
    let g = handed 0 a.keys.now a.layers.now a.constants.now a.public.now a.message.now a.limit a.room.now a.signature.now in
    record { lent = (fitting (known_set a.set _ (sym c.numbered.ensures ∙ c.in_ok-p.ensures.ok_part)) g (sym c.in_ok-check_lengths.ensures)).lent }

pub verdict-requires : goal.verdict-requires
verdict-requires c =
    let a = c.args in
    let g = handed 0 a.keys.now a.layers.now a.constants.now a.public.now a.message.now a.limit a.room.now a.signature.now in
    (fitting (known_set a.set _ (sym c.numbered.ensures ∙ c.in_ok-p.ensures.ok_part)) g (sym c.in_ok-check_lengths.ensures)).room-enough

pub returns : goal.returns
returns c =
    judged _ _ (sym c.numbered.ensures ∙ c.in_ok-p.ensures.ok_part) (sym c.in_ok-check_lengths.ensures) (sym c.in_ok-check.ensures)
    c.verdict.ensures.0 refl c.verdict.ensures.1
