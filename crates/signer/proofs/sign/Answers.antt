-- `signer::sign` meets its contract.
use mathlib.Core.Path.{refl, sym, ap, ◌∙◌}
use Rattle.sets.proofs.Each.{known_set}
use Rattle.answers.specs.Answers.{as_answer}
use Rattle.answers.proofs.OutcomeLaws.{handed_on, no_such_set}
use Rattle.signer.proofs.SignLaws.{handed, fitting, no_set, stopped, unpaired, signed}
use Rattle.signer.proofs.sign.Goals as goal

pub returns-in_err-p : goal.returns-in_err-p
returns-in_err-p c =
    no_set _ _ (sym c.numbered.ensures ∙ c.in_err-p.ensures.ok_part)
    (ap as_answer (no_such_set _ c.in_err-p.ensures.ok_part c.in_err-p.ensures.value c.from_residual.ensures.1))

pub check_lengths-requires : goal.check_lengths-requires
check_lengths-requires c = known_set c.args.set _ (sym c.numbered.ensures ∙ c.in_ok-p.ensures.ok_part)

pub returns-in_err-check_lengths : goal.returns-in_err-check_lengths
returns-in_err-check_lengths c =
    stopped _ _ (sym c.numbered.ensures ∙ c.in_ok-p.ensures.ok_part) (sym c.in_err-check_lengths.ensures)
    (ap as_answer (handed_on _ c.from_residual-in_err-check_lengths.ensures.1))

pub invariant_of-tables : goal.invariant_of-tables
invariant_of-tables c =
    let a = c.args in
    let g = handed 0 a.keys.now a.layers.now a.constants.now a.secret.now a.public.now a.message.now a.limit a.seeds.now a.room.now a.output.now in
    record { lent = (fitting (known_set a.set _ (sym c.numbered.ensures ∙ c.in_ok-p.ensures.ok_part)) g (sym c.in_ok-check_lengths.ensures)).lent }

pub traced-requires : goal.traced-requires
traced-requires c =
    let a = c.args in
    let g = handed 0 a.keys.now a.layers.now a.constants.now a.secret.now a.public.now a.message.now a.limit a.seeds.now a.room.now a.output.now in
    let f = fitting (known_set a.set _ (sym c.numbered.ensures ∙ c.in_ok-p.ensures.ok_part)) g (sym c.in_ok-check_lengths.ensures) in
    (f.secret-wide, f.public-long)

pub invariant_of-signing : goal.invariant_of-signing
invariant_of-signing c =
    let a = c.args in
    let g = handed 0 a.keys.now a.layers.now a.constants.now a.secret.now a.public.now a.message.now a.limit a.seeds.now a.room.now a.output.now in
    let f = fitting (known_set a.set _ (sym c.numbered.ensures ∙ c.in_ok-p.ensures.ok_part)) g (sym c.in_ok-check_lengths.ensures) in
    record {
      ready = record { lent = f.lent; secret-wide = f.secret-wide; public-long = f.public-long; seeds-long = f.seeds-long; traced = c.traced.ensures };
    }

pub returns-then-not-paired : goal.returns-then-not-paired
returns-then-not-paired c =
    unpaired _ _ (sym c.numbered.ensures ∙ c.in_ok-p.ensures.ok_part) (sym c.in_ok-check_lengths.ensures)
    (sym c.paired.ensures ∙ c.if-not-paired.true) refl

pub sign_ready-requires : goal.sign_ready-requires
sign_ready-requires c =
    let a = c.args in
    let g = handed 0 a.keys.now a.layers.now a.constants.now a.secret.now a.public.now a.message.now a.limit a.seeds.now a.room.now a.output.now in
    let f = fitting (known_set a.set _ (sym c.numbered.ensures ∙ c.in_ok-p.ensures.ok_part)) g (sym c.in_ok-check_lengths.ensures) in
    (f.room-enough, f.output-enough)

pub returns : goal.returns
returns c =
    signed _ _ (sym c.numbered.ensures ∙ c.in_ok-p.ensures.ok_part) (sym c.in_ok-check_lengths.ensures)
    (sym c.paired.ensures ∙ c.if-not-paired.false) (c.sign_ready.ensures c.args.set)
