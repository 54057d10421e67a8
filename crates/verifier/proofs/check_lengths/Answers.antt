-- `verifier::check_lengths` meets its contract.
use mathlib.Core.Path.{sym, ◌∙◌}
use Rattle.answers.proofs.AnswersLaws.{first_table, first_key, first-message, first-limit, first-room, first-none}
use Rattle.answers.proofs.ConditionsLaws.{other-true, other-false, short_true, short_false}
use Rattle.verifier.specs.Verify.{length_checks}
use Rattle.verifier.proofs.check_lengths.Goals as goal

pub returns-then-tables_other : goal.returns-then-tables_other
unfolding length_checks
returns-then-tables_other c = first_table _ _ _ _ _ (sym c.tables_other.ensures ∙ c.if-tables_other.true)

pub returns-then-public-public_length : goal.returns-then-public-public_length
unfolding length_checks
returns-then-public-public_length c = first_key _ _ _ _ _ (sym c.tables_other.ensures ∙ c.if-tables_other.false) (other-true _ _ _ c.public_length.ensures c.if-public-public_length.true)

pub returns-then-message_out : goal.returns-then-message_out
unfolding length_checks
returns-then-message_out c = first-message _ _ _ _ _ (sym c.tables_other.ensures ∙ c.if-tables_other.false) (other-false _ _ _ c.public_length.ensures c.if-public-public_length.false) (sym c.message_out.ensures ∙ c.if-message_out.true)

pub returns-then-limit_out : goal.returns-then-limit_out
unfolding length_checks
returns-then-limit_out c = first-limit _ _ _ _ _ (sym c.tables_other.ensures ∙ c.if-tables_other.false) (other-false _ _ _ c.public_length.ensures c.if-public-public_length.false) (sym c.message_out.ensures ∙ c.if-message_out.false) (sym c.limit_out.ensures ∙ c.if-limit_out.true)

pub returns-then-room-room_length : goal.returns-then-room-room_length
unfolding length_checks
returns-then-room-room_length c = first-room _ _ _ _ _ (sym c.tables_other.ensures ∙ c.if-tables_other.false) (other-false _ _ _ c.public_length.ensures c.if-public-public_length.false) (sym c.message_out.ensures ∙ c.if-message_out.false) (sym c.limit_out.ensures ∙ c.if-limit_out.false) (short_true _ _ _ c.room_length.ensures c.if-room-room_length.true)

pub returns : goal.returns
unfolding length_checks
returns c = first-none _ _ _ _ _ (sym c.tables_other.ensures ∙ c.if-tables_other.false) (other-false _ _ _ c.public_length.ensures c.if-public-public_length.false) (sym c.message_out.ensures ∙ c.if-message_out.false) (sym c.limit_out.ensures ∙ c.if-limit_out.false) (short_false _ _ _ c.room_length.ensures c.if-room-room_length.false)
