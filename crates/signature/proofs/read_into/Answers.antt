-- `signature::read_into` meets its contract.
use mathlib.Core.Path.{refl, sym, ◌∙◌}
use native.Mathlib.Omega.{arith}
use Rattle.answers.specs.declared.Refusal.TheVariants.{Room}
use Rattle.shape.proofs.RoundTripsProof.{length-form}
use Rattle.shape.proofs.SetFacts.{unpacked≤}
use Rattle.answers.proofs.OutcomeLaws.{promise_refused, promise_given, handed_on}
use Rattle.signature.proofs.CallLaws.{read_small, read-refused, read_done, read-exact}
use Rattle.signature.proofs.read_into.Goals as goal

pub returns-then-output-n : goal.returns-then-output-n
returns-then-output-n c = promise_refused _ Room _ (read_small c.args.p c.args.s.now _ (omega arith)) refl

pub returns-in_err-check : goal.returns-in_err-check
returns-in_err-check c =
    promise_refused _ _ _ (read-refused c.args.p c.args.s.now _ (omega arith) _ (sym c.in_err-check.ensures))
    (handed_on _ c.from_residual.ensures.1)

pub unpack-requires : goal.unpack-requires
unpack-requires c = (c.requires, (read-exact c.args.p c.args.s.now (sym c.in_ok-check.ensures), omega arith))

pub overflow_cast-result : goal.overflow_cast-result
overflow_cast-result c = omega (arith, unpacked≤ c.requires)

pub returns : goal.returns
returns c =
    let p = c.args.p in
    let s = c.args.s.now in
    let fine = sym c.in_ok-check.ensures in
    promise_given _ _ _ _ _ (read_done p s _ (omega arith) fine)
    (c.unpacked_length-n.ensures ∙ sym (length-form p s (read-exact p s fine)))
    c.unpack.ensures
