-- `hashing::derive` meets its contract.
use native.Mathlib.Omega.{arith}
use mathlib.Core.Path.{◌∙◌, ap}
use Rattle.sets.specs.declared.Set.{Set}
use Rattle.sets.proofs.Each.{most}
use Rattle.shake.specs.declared.Sponge.{Sponge}
use Rattle.shake.specs.Sponge.{absorbed}
use Rattle.hashing.specs.Hashing.{kdf, derived_seeds}
use Rattle.hashing.proofs.HashingLaws.{rated, fed_more, kdf-given, fed_seeds}
use Rattle.hashing.proofs.derive.Goals as goal

pub overflow_cast-width : goal.overflow_cast-width
overflow_cast-width c = omega (arith, most (λ (p : Set). p.seed) 256 tt tt tt c.requires.0)

pub new-requires : goal.new-requires
new-requires c = rated c.requires.0

pub returns : goal.returns
unfolding derived_seeds
returns c =
    let a = c.args in
    let h = most (λ (p : Set). p.seed) 256 tt tt tt c.requires.0 in
    let e1 = c.absorb.ensures.0 ∙ ap (λ (s : Sponge). absorbed s a.secret.now) c.new.ensures.0 in
    let e2 = fed_more _ _ _ _ _ e1 c.absorb-s.ensures.0 in
    let e3 = fed_more _ _ _ _ _ e2 c.absorb-2.ensures.0 in
    let e4 = fed_more _ _ _ _ _ e3 c.absorb_u16.ensures.0 in
    c.squeeze.ensures.1
    ∙ kdf-given c.requires.0 _ _ _ c.pad-u.ensures.0 _ (e4 ∙ fed_seeds _ a.secret.now a.message.now a.public.now a.p.seed (omega (arith, h)))
    ∙ ap (kdf a.p _) c.requires.1
