-- `lowmc::encrypt_call` meets its contract.
use native.Mathlib.Omega.{arith}
use mathlib.Core.Path.{sym, ◌∙◌, subst}
use Prim.Native.Nat.{ℕ, ◌≤◌}
use lib.ListN.{length}
use Rattle.bits.specs.Bytes.{width}
use Rattle.sets.specs.Lengths.{w}
use Rattle.sets.proofs.Each.{known_set, most}
use Rattle.answers.proofs.OutcomeLaws.{promise_refused, promise_given, handed_on, no_such_set}
use Rattle.lowmc.proofs.EncryptedLaws.{length-encrypted}
use Rattle.lowmc.proofs.CallsLaws.{passed, lent, encrypt_no_set, encrypt-refused, encrypt-given}
use Rattle.lowmc.proofs.encrypt_call.Goals as goal

pub returns-in_err-p : goal.returns-in_err-p
returns-in_err-p c =
    promise_refused _ _ _ (encrypt_no_set _ _ _ _ _ _ _ (sym c.numbered.ensures ∙ c.in_err-p.ensures.ok_part))
    (no_such_set _ c.in_err-p.ensures.ok_part c.in_err-p.ensures.value c.from_residual.ensures.1)

pub width-n-requires : goal.width-n-requires
width-n-requires c = known_set c.args.set _ (sym c.numbered.ensures ∙ c.in_ok-p.ensures.ok_part)

pub check-requires : goal.check-requires
check-requires c = known_set c.args.set _ (sym c.numbered.ensures ∙ c.in_ok-p.ensures.ok_part)

pub returns-in_err-check : goal.returns-in_err-check
returns-in_err-check c =
    let a = c.args in
    promise_refused _ _ _
    (encrypt-refused _ a.keys.now a.layers.now a.constants.now a.secret.now a.block.now _ _ (sym c.numbered.ensures ∙ c.in_ok-p.ensures.ok_part) _ _ (sym c.in_err-check.ensures) c.width-n.ensures)
    (handed_on _ c.from_residual-in_err-check.ensures.1)

pub invariant_of-tables : goal.invariant_of-tables
invariant_of-tables c =
    let a = c.args in
    record {
      lent = lent _ a.keys.now a.layers.now a.constants.now a.secret.now a.block.now _ _ (known_set a.set _ (sym c.numbered.ensures ∙ c.in_ok-p.ensures.ok_part))
          (passed _ _ _ _ _ _ _ _ (sym c.in_ok-check.ensures));
    }

pub encrypt-requires : goal.encrypt-requires
encrypt-requires c =
    let h = passed _ _ _ _ _ _ _ _ (sym c.in_ok-check.ensures) in
    (h.secret-length, h.block_length, subst (λ (k : ℕ). k ≤ length c.args.output.now) c.width-n.ensures h.enough)

pub overflow_cast-result : goal.overflow_cast-result
unfolding width
overflow_cast-result c = omega (arith, c.width-n.ensures, most w 32 tt tt tt (known_set c.args.set _ (sym c.numbered.ensures ∙ c.in_ok-p.ensures.ok_part)))

pub returns : goal.returns
returns c =
    let a = c.args in
    let is = sym c.in_ok-check.ensures in
    promise_given _ _ _ _ _
    (encrypt-given _ a.keys.now a.layers.now a.constants.now a.secret.now a.block.now _ _ (sym c.numbered.ensures ∙ c.in_ok-p.ensures.ok_part) _ is c.width-n.ensures)
    (c.width-n.ensures ∙ sym (length-encrypted _ a.keys.now a.layers.now a.constants.now a.secret.now a.block.now))
    c.encrypt.ensures
