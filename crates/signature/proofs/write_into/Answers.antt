-- `signature::write_into` meets its contract.
use mathlib.Core.Path.{refl, sym}
use native.Mathlib.Omega.{arith}
use Rattle.answers.specs.declared.Refusal.TheVariants.{Room}
use Rattle.answers.proofs.OutcomeLaws.{promise_refused, promise_given, handed_on}
use Rattle.signature.proofs.CallLaws.{write-small, write-refused, write_done, signature-small}
use Rattle.signature.proofs.write_into.Goals as goal

pub returns-then-output-longest : goal.returns-then-output-longest
returns-then-output-longest c = promise_refused _ Room _ (write-small c.args.p c.args.x.now _ (omega arith)) refl

pub returns-in_err-check_form : goal.returns-in_err-check_form
returns-in_err-check_form c =
    promise_refused _ _ _ (write-refused c.args.p c.args.x.now _ (omega arith) _ (sym c.in_err-check_form.ensures))
    (handed_on _ c.from_residual.ensures.1)

pub pack-requires : goal.pack-requires
pack-requires c = (c.requires, (sym c.in_ok-check_form.ensures, omega arith))

pub overflow_cast-result : goal.overflow_cast-result
overflow_cast-result c = omega (arith, c.pack.ensures.0, signature-small c.requires c.args.x.now (sym c.in_ok-check_form.ensures))

pub returns : goal.returns
returns c =
    promise_given _ _ _ _ _ (write_done c.args.p c.args.x.now _ (omega arith) (sym c.in_ok-check_form.ensures))
    c.pack.ensures.0 c.pack.ensures.1
