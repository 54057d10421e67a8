-- `verifier::fill_round` meets its contract.
use mathlib.Core.Path.{ap₂, ◌∙◌}
use Rattle.slices.specs.Slices.{Bytes}
use Rattle.lowmc.specs.Cipher.{cipher}
use Rattle.parts.specs.Places.{shown_by}
use Rattle.views.specs.Parties.{party_of, three}
use Rattle.views.specs.Opened.{recomputed_outputs, recomputed_commitments}
use Rattle.views.proofs.PartiesLaws.{number_of}
use Rattle.room.specs.Room.{with_round}
use Rattle.verifier.proofs.OpenedLaws.{round_filled, plain_as, cipher_as}
use borrow.Author.Rules.{rules}
use Rattle.verifier.proofs.fill_round.Goals as goal

pub put_commitments-requires : goal.put_commitments-requires
put_commitments-requires c =
    let a = c.args in
    let h = c.requires in
    (c.args.tables.now.lent.is_set, h.1, search rules, h.3, (c.open-x.ensures (party_of a.e) (c.from.ensures ∙ number_of a.e h.2)).again.transcript.rowed)

pub returns : goal.returns
returns c =
    let a = c.args in
    let h = c.requires in
    let u = shown_by a.shown.now in
    let i = c.args.tables.now.lent.is_set in
    round_filled a.tables.now.set a.tables.now.keys.now a.tables.now.layers.now a.tables.now.constants.now a.salt.now a.t (party_of a.e) u _ _ _ a.room.now _ _
    (c.open-x.ensures (party_of a.e) (c.from.ensures ∙ number_of a.e h.2)) c.put_outputs.ensures c.put_commitments.ensures
    ∙ ap₂ (λ (b c : Bytes). with_round a.tables.now.set a.t
    (three (recomputed_outputs a.tables.now.set (cipher a.tables.now) a.salt.now a.t (party_of a.e) u b c))
    (three (recomputed_commitments a.tables.now.set (cipher a.tables.now) a.salt.now a.t (party_of a.e) u b c))
    a.room.now)
    (plain_as i a.public.now _ c.width-w.ensures h.0) (cipher_as i a.public.now _ c.width-w.ensures h.0)
