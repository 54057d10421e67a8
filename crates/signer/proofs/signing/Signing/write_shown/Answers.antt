-- `signer::signing::Signing::write_shown` meets its contract.
use mathlib.Core.Path.{ap, ◌∙◌}
use mathlib.Core.List.{[]}
use Prim.Native.Nat.{ℕ, ◌+◌, ◌%◌}
use lib.ListN.{get_or}
use Rattle.slices.specs.Slices.{put}
use Rattle.circuit.specs.Round.{third}
use Rattle.lowmc.specs.Encrypted.{plaintext}
use Rattle.shape.specs.Form.{Shown, round_of}
use Rattle.views.specs.Parties.{party_of}
use Rattle.signer.proofs.WriteLaws.{number_after, number-last, shown_as}
use Rattle.signer.proofs.signing.Signing.write_shown.Goals as goal

pub returns : goal.returns
returns c =
    let a = c.args in
    let s = a.self.now in
    let p = s.tables.set in (
      c.write_parts.ensures.0,
      c.write_parts.ensures.1
          ∙ ap (λ (u : Shown). put a.output.now a.at (round_of p a.e u))
          (shown_as p s.tables.keys.now s.tables.layers.now s.tables.constants.now s.secret.now (plaintext p s.public.now) s.seeds.now a.t a.e
          a.x.now _ _ _ c.requires.2
          (c.commitment_of-commitment.ensures (third (party_of a.e)) (ap (λ (z : ℕ). (z + 2) % 3) c.from-j.ensures ∙ number-last a.e c.requires.1))
          (ap (λ (z : ℕ). get_or a.x.now.said z []) (ap (λ (z : ℕ). (z + 1) % 3) c.from-j.ensures ∙ number_after a.e c.requires.1)) c.shown_share-share.ensures),
    )
