-- `answers::tables_other` meets its contract.
use Rattle.answers.specs.Conditions.{tables_other}
use Rattle.answers.proofs.ConditionsLaws.{other-true, other-false}
use Rattle.answers.proofs.tables_other.Goals as goal

pub returns-then-keys-keys_length : goal.returns-then-keys-keys_length
unfolding tables_other
returns-then-keys-keys_length c = rw (other-true _ _ _ c.keys_length.ensures c.if-keys-keys_length.true)

pub returns-then-layers-layers_length : goal.returns-then-layers-layers_length
unfolding tables_other
returns-then-layers-layers_length c = rw (other-false _ _ _ c.keys_length.ensures c.if-keys-keys_length.false, other-true _ _ _ c.layers_length.ensures c.if-layers-layers_length.true)

pub returns : goal.returns
unfolding tables_other
returns c = rw (other-false _ _ _ c.keys_length.ensures c.if-keys-keys_length.false, other-false _ _ _ c.layers_length.ensures c.if-layers-layers_length.false, c.constants_length.ensures)
