-- `hashing::digest` meets its contract.
use mathlib.Core.Path.{◌∙◌}
use Rattle.hashing.proofs.HashingLaws.{fed_more, h-given}
use Rattle.hashing.proofs.digest.Goals as goal

pub returns : goal.returns
returns c =
    c.squeeze.ensures.1
    ∙ h-given c.requires.0 _ _ _ c.pad-s.ensures.0 c.args.i c.args.input.now (fed_more _ _ _ _ _ c.prefixed.ensures.0 c.absorb.ensures.0) c.requires.1
