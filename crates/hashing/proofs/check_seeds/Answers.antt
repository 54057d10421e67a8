-- `hashing::check_seeds` meets its contract.
use mathlib.Core.Path.{sym, ◌∙◌, subst}
use Prim.Native.Nat.{ℕ, ◌<◌, ◌≤◌}
use borrow.Author.Tests.{lt-ltb, le-ltb}
use Rattle.answers.specs.Answers.{first}
use Rattle.hashing.specs.SeedsCall.{seeds_checks}
use Rattle.hashing.proofs.check_seeds.Goals as goal

pub returns-then-keys_other : goal.returns-then-keys_other
unfolding seeds_checks first
returns-then-keys_other c = rw (sym c.keys_other.ensures ∙ c.if-keys_other.true)

pub returns-then-message_out : goal.returns-then-message_out
unfolding seeds_checks first
returns-then-message_out c = rw (sym c.keys_other.ensures ∙ c.if-keys_other.false, sym c.message_out.ensures ∙ c.if-message_out.true)

pub returns-then-output-seeds_length : goal.returns-then-output-seeds_length
unfolding seeds_checks first
returns-then-output-seeds_length c = rw (sym c.keys_other.ensures ∙ c.if-keys_other.false, sym c.message_out.ensures ∙ c.if-message_out.false, lt-ltb _ _ (subst (λ (k : ℕ). c.args.output < k) c.seeds_length.ensures c.if-output-seeds_length.true))

pub returns : goal.returns
unfolding seeds_checks first
returns c = rw (sym c.keys_other.ensures ∙ c.if-keys_other.false, sym c.message_out.ensures ∙ c.if-message_out.false, le-ltb _ _ (subst (λ (k : ℕ). k ≤ c.args.output) c.seeds_length.ensures c.if-output-seeds_length.false))
