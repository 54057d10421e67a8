-- `challenge::first_block` meets its contract.
use mathlib.Core.Path.{sym, ◌∙◌}
use lib.Seq.{length-take-le}
use Rattle.hashing.proofs.HashingLaws.{digest_fits, front_is, h-given}
use Rattle.challenge.proofs.first_block.Goals as goal

pub slice_bounds-block-end : goal.slice_bounds-block-end
slice_bounds-block-end c = digest_fits c.requires.0

pub slice_bounds-squeeze-end : goal.slice_bounds-squeeze-end
slice_bounds-squeeze-end c = sym (length-take-le _ _ (digest_fits c.requires.0))

pub returns : goal.returns
returns c =
    λ x e.
    front_is _ _ _ (digest_fits c.requires.0) c.squeeze.auto.out
    ∙ (c.squeeze.ensures.1 ∙ h-given c.requires.0 _ _ _ c.pad-u.ensures.0 1 x e (length-take-le _ _ (digest_fits c.requires.0)))
