-- `hashing::prefixed` meets its contract.
use mathlib.Core.Path.{◌∙◌, ap}
use mathlib.Core.List.{[], ◌∷◌}
use Rattle.shake.specs.declared.Sponge.{Sponge}
use Rattle.shake.specs.Sponge.{absorbed}
use Rattle.hashing.proofs.HashingLaws.{rated}
use Rattle.hashing.proofs.prefixed.Goals as goal

pub new-requires : goal.new-requires
new-requires c = rated c.requires

pub returns : goal.returns
returns c = (c.absorb_byte.ensures.0 ∙ ap (λ (s : Sponge). absorbed s (c.args.i ∷ [])) c.new.ensures.0, c.absorb_byte.ensures.1)
