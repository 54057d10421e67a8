-- `challenge::block` meets its contract.
use mathlib.Core.List.{[], ◌∷◌}
use Rattle.hashing.proofs.HashingLaws.{fed_more}
use Rattle.challenge.proofs.block.Goals as goal

pub returns : goal.returns
returns c = c.first_block.ensures c.args.input.now (fed_more _ _ _ (1 ∷ []) _ c.prefixed.ensures.0 c.absorb-s.ensures.0)
