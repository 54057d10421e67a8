-- `hashing::fill` meets its contract.
use mathlib.Core.Path.{◌∙◌, ap}
use Rattle.shake.specs.declared.Sponge.{Sponge}
use Rattle.shake.specs.Sponge.{absorbed}
use Rattle.hashing.proofs.HashingLaws.{rated, kdf-given}
use Rattle.hashing.proofs.fill.Goals as goal

pub new-requires : goal.new-requires
new-requires c = rated c.requires

pub returns : goal.returns
returns c =
    let m = c.args.input.now in
    c.squeeze.ensures.1 ∙ kdf-given c.requires _ _ _ c.pad-s.ensures.0 m (c.absorb.ensures.0 ∙ ap (λ (s : Sponge). absorbed s m) c.new.ensures.0)
