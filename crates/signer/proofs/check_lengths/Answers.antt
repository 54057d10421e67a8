-- `signer::check_lengths` meets its contract.
use mathlib.Core.Path.{sym, ◌∙◌}
use Rattle.answers.proofs.AnswersLaws.{first_table, first_key, first-message, first-limit, first-room, first-none}
use Rattle.answers.proofs.ConditionsLaws.{other-true, other-false, short_true, short_false}
use Rattle.signer.specs.Sign.{length_checks}
use Rattle.signer.proofs.check_lengths.Goals as goal

pub returns-then-tables_other : goal.returns-then-tables_other
unfolding length_checks
returns-then-tables_other c = first_table _ _ _ _ _ (sym c.tables_other.ensures ∙ c.if-tables_other.true)

pub returns-then-keys_other : goal.returns-then-keys_other
unfolding length_checks
returns-then-keys_other c = first_key _ _ _ _ _ (sym c.tables_other.ensures ∙ c.if-tables_other.false) (sym c.keys_other.ensures ∙ c.if-keys_other.true)

pub returns-then-message_out : goal.returns-then-message_out
unfolding length_checks
returns-then-message_out c = first-message _ _ _ _ _ (sym c.tables_other.ensures ∙ c.if-tables_other.false) (sym c.keys_other.ensures ∙ c.if-keys_other.false) (sym c.message_out.ensures ∙ c.if-message_out.true)

pub returns-then-limit_out : goal.returns-then-limit_out
unfolding length_checks
returns-then-limit_out c = first-limit _ _ _ _ _ (sym c.tables_other.ensures ∙ c.if-tables_other.false) (sym c.keys_other.ensures ∙ c.if-keys_other.false) (sym c.message_out.ensures ∙ c.if-message_out.false) (sym c.limit_out.ensures ∙ c.if-limit_out.true)

pub returns-then-seeds-seeds_length : goal.returns-then-seeds-seeds_length
unfolding length_checks
returns-then-seeds-seeds_length c = first-room _ _ _ _ _ (sym c.tables_other.ensures ∙ c.if-tables_other.false) (sym c.keys_other.ensures ∙ c.if-keys_other.false) (sym c.message_out.ensures ∙ c.if-message_out.false) (sym c.limit_out.ensures ∙ c.if-limit_out.false) (rw (other-true _ _ _ c.seeds_length.ensures c.if-seeds-seeds_length.true))

pub returns-then-room-room_length : goal.returns-then-room-room_length
unfolding length_checks
returns-then-room-room_length c = first-room _ _ _ _ _ (sym c.tables_other.ensures ∙ c.if-tables_other.false) (sym c.keys_other.ensures ∙ c.if-keys_other.false) (sym c.message_out.ensures ∙ c.if-message_out.false) (sym c.limit_out.ensures ∙ c.if-limit_out.false) (rw (other-false _ _ _ c.seeds_length.ensures c.if-seeds-seeds_length.false, short_true _ _ _ c.room_length.ensures c.if-room-room_length.true))

pub returns-then-output-longest : goal.returns-then-output-longest
unfolding length_checks
returns-then-output-longest c = first-room _ _ _ _ _ (sym c.tables_other.ensures ∙ c.if-tables_other.false) (sym c.keys_other.ensures ∙ c.if-keys_other.false) (sym c.message_out.ensures ∙ c.if-message_out.false) (sym c.limit_out.ensures ∙ c.if-limit_out.false) (rw (other-false _ _ _ c.seeds_length.ensures c.if-seeds-seeds_length.false, short_false _ _ _ c.room_length.ensures c.if-room-room_length.false, short_true _ _ _ c.longest.ensures c.if-output-longest.true))

pub returns : goal.returns
unfolding length_checks
returns c = first-none _ _ _ _ _ (sym c.tables_other.ensures ∙ c.if-tables_other.false) (sym c.keys_other.ensures ∙ c.if-keys_other.false) (sym c.message_out.ensures ∙ c.if-message_out.false) (sym c.limit_out.ensures ∙ c.if-limit_out.false) (rw (other-false _ _ _ c.seeds_length.ensures c.if-seeds-seeds_length.false, short_false _ _ _ c.room_length.ensures c.if-room-room_length.false, short_false _ _ _ c.longest.ensures c.if-output-longest.false))
