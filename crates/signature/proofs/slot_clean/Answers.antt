-- `signature::slot_clean` meets its contract.
use mathlib.Core.Path.{sym, ◌∙◌}
use Rattle.signature.proofs.TestLaws.{transcript_inside, slot_fails, slot-other, slot_zero}
use Rattle.signature.proofs.slot_clean.Goals as goal

pub padded-requires : goal.padded-requires
padded-requires c =
    transcript_inside c.requires.0 _ _ _ c.requires.1 c.gates.ensures

pub returns-then-not-padded : goal.returns-then-not-padded
returns-then-not-padded c =
    slot_fails c.requires.0 c.args.e c.args.at c.args.x.now _ c.gates.ensures
    (sym (c.if-not-padded.true) ∙ c.padded.ensures)

pub returns-then-e-ne0 : goal.returns-then-e-ne0
returns-then-e-ne0 c =
    slot-other c.requires.0 c.args.e c.args.at c.args.x.now _ c.gates.ensures
    (sym (c.if-not-padded.false) ∙ c.padded.ensures) c.if-e-ne0.true

pub returns : goal.returns
returns c =
    slot_zero c.requires.0 c.args.e c.args.at c.args.x.now _
    c.gates.ensures
    (sym (c.if-not-padded.false) ∙ c.padded.ensures)
    c.if-e-ne0.false _ _ c.round_least.ensures c.width.ensures _ c.zeros.ensures
