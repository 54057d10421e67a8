-- `parts::check` meets its contract.
use mathlib.Core.Path.{sym, ◌∙◌}
use native.Mathlib.Omega.{arith}
use Rattle.shape.proofs.ReadingLaws.{read_short, read_header, read_length, read-padding, read-fine}
use Rattle.shape.proofs.SetFacts.{header_length≤}
use Rattle.parts.proofs.check.Goals as goal

pub overflow_add-header : goal.overflow_add-header
overflow_add-header c = omega (arith, header_length≤ c.requires)

pub returns-then-s-header : goal.returns-then-s-header
returns-then-s-header c = sym (read_short c.args.p c.args.s.now (omega arith))

pub returns-then-header_wrong : goal.returns-then-header_wrong
returns-then-header_wrong c =
    sym (read_header c.args.p c.args.s.now (omega arith) (sym c.header_wrong.ensures ∙ c.if-header_wrong.true))

pub returns-then-s-full_length : goal.returns-then-s-full_length
returns-then-s-full_length c =
    sym (read_length c.args.p c.args.s.now (omega arith)
    (sym c.header_wrong.ensures ∙ c.if-header_wrong.false)
    (λ e. omega (arith, e, c.if-s-full_length.true, c.full_length.ensures)))

pub returns-then-padding_wrong : goal.returns-then-padding_wrong
returns-then-padding_wrong c =
    sym (read-padding c.args.p c.args.s.now (omega arith)
    (sym c.header_wrong.ensures ∙ c.if-header_wrong.false)
    (c.if-s-full_length.false ∙ c.full_length.ensures)
    (sym c.padding_wrong.ensures ∙ c.if-padding_wrong.true))

pub returns : goal.returns
returns c =
    sym (read-fine c.args.p c.args.s.now (omega arith)
    (sym c.header_wrong.ensures ∙ c.if-header_wrong.false)
    (c.if-s-full_length.false ∙ c.full_length.ensures)
    (sym c.padding_wrong.ensures ∙ c.if-padding_wrong.false))
