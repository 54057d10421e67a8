-- `signature::read` meets its contract.
use mathlib.Core.Path.{sym, ◌∙◌}
use Rattle.sets.proofs.Each.{known_set}
use Rattle.answers.proofs.OutcomeLaws.{promise_refused, no_such_set}
use Rattle.signature.proofs.CallLaws.{read_unknown, read_known}
use Rattle.signature.proofs.read.Goals as goal

pub returns-in_err-p : goal.returns-in_err-p
returns-in_err-p c =
    promise_refused _ _ _ (read_unknown _ c.args.s.now _ (sym c.numbered.ensures ∙ c.in_err-p.ensures.ok_part))
    (no_such_set _ c.in_err-p.ensures.ok_part c.in_err-p.ensures.value c.from_residual.ensures.1)

pub read_into-requires : goal.read_into-requires
read_into-requires c = known_set c.args.set _ (sym c.numbered.ensures ∙ c.in_ok-p.ensures.ok_part)

pub returns : goal.returns
returns c = read_known _ _ (sym c.numbered.ensures ∙ c.in_ok-p.ensures.ok_part) _ _ _ _ _ c.read_into.ensures
