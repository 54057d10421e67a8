-- `shake::Sponge::absorb_u16` meets its contract: two bytes, one by one.
use mathlib.Core.Path.{◌≡◌, ap, ◌∙◌}
use mathlib.Core.List.{[], ◌∷◌}
use Prim.Native.Nat.{ℕ, ◌/◌, ◌%◌}
use native.Mathlib.Omega.{arith}
use lib.ListN.{get_or}
use Rattle.slices.specs.Slices.{Bytes}
use Rattle.shake.specs.declared.Sponge.{Sponge}
use Rattle.shake.specs.Sponge.{absorbed}
use Rattle.shake.proofs.SpongeLaws.{absorbed-append}
use Rattle.shake.proofs.Sponge.absorb_u16.Goals as goal

pub returns : goal.returns
returns c =
    let h = c.absorb_byte-2.ensures in
    let x = c.args.x in
    let p = c.to_le_bytes.result in
    let e : x / 256 % 256 ≡ x / 256 = omega arith in (
      h.0 ∙ ap (λ (s : Sponge). absorbed s (get_or p 1 0 ∷ [])) c.absorb_byte.ensures.0
          ∙ absorbed-append _ _ _
          ∙ ap (absorbed c.args.self) (ap (λ (r : Bytes). get_or r 0 0 ∷ get_or r 1 0 ∷ []) c.to_le_bytes.ensures ∙ ap (λ (y : ℕ). x % 256 ∷ y ∷ []) e),
      h.1,
    )
