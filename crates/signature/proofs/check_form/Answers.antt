-- `signature::check_form` meets its contract.
use mathlib.Core.Path.{sym, ◌∙◌}
use native.Mathlib.Omega.{arith}
use Rattle.shape.proofs.ReadingLaws.{write-length, write-value, write-slot, write-fine}
use Rattle.signature.proofs.check_form.Goals as goal

pub returns-then-x-unpacked_length : goal.returns-then-x-unpacked_length
returns-then-x-unpacked_length c =
    sym (write-length c.args.p c.args.x.now (λ e. omega (arith, e, c.if-x-unpacked_length.true, c.unpacked_length.ensures)))

pub returns-then-value_wrong : goal.returns-then-value_wrong
returns-then-value_wrong c =
    sym (write-value c.args.p c.args.x.now (omega arith) (sym c.value_wrong.ensures ∙ c.if-value_wrong.true))

pub returns-then-slot_wrong : goal.returns-then-slot_wrong
returns-then-slot_wrong c =
    sym (write-slot c.args.p c.args.x.now (omega arith)
    (sym c.value_wrong.ensures ∙ c.if-value_wrong.false)
    (sym c.slot_wrong.ensures ∙ c.if-slot_wrong.true))

pub returns : goal.returns
returns c =
    sym (write-fine c.args.p c.args.x.now (omega arith)
    (sym c.value_wrong.ensures ∙ c.if-value_wrong.false)
    (sym c.slot_wrong.ensures ∙ c.if-slot_wrong.false))
