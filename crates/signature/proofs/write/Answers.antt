-- `signature::write` meets its contract.
use mathlib.Core.Path.{sym, ◌∙◌}
use Rattle.sets.proofs.Each.{known_set}
use Rattle.answers.proofs.OutcomeLaws.{promise_refused, no_such_set}
use Rattle.signature.proofs.CallLaws.{write_unknown, write_known}
use Rattle.signature.proofs.write.Goals as goal

pub returns-in_err-p : goal.returns-in_err-p
returns-in_err-p c =
    promise_refused _ _ _ (write_unknown _ c.args.x.now _ (sym c.numbered.ensures ∙ c.in_err-p.ensures.ok_part))
    (no_such_set _ c.in_err-p.ensures.ok_part c.in_err-p.ensures.value c.from_residual.ensures.1)

pub write_into-requires : goal.write_into-requires
write_into-requires c = known_set c.args.set _ (sym c.numbered.ensures ∙ c.in_ok-p.ensures.ok_part)

pub returns : goal.returns
returns c = write_known _ _ (sym c.numbered.ensures ∙ c.in_ok-p.ensures.ok_part) _ _ _ _ _ c.write_into.ensures
