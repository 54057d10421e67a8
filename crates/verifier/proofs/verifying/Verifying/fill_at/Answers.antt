-- `verifier::verifying::Verifying::fill_at` meets its contract.
use mathlib.Core.Path.{ap₂, ◌∙◌}
use Rattle.slices.specs.Slices.{Bytes}
use Rattle.circuit.specs.Round.{Party}
use Rattle.lowmc.specs.Cipher.{cipher}
use Rattle.views.specs.Parties.{three}
use Rattle.room.specs.Room.{with_round}
use Rattle.verifier.proofs.FillLaws.{value-small, commitment-long, share-long, share-small, outputs_as, commitments-as}
use borrow.Author.Rules.{rules}
use Rattle.verifier.proofs.verifying.Verifying.fill_at.Goals as goal

pub fill_round-requires : goal.fill_round-requires
fill_round-requires c =
    let a = c.args in
    let h = c.requires in
    let i = c.args.self.now.tables.lent.is_set in (
      a.self.now.public_long,
      h.0,
      value-small i a.self.now.signature.now a.t h.0 a.self.now.reads a.here h.1,
      commitment-long i a.self.now.signature.now a.t h.0 a.self.now.reads a.here h.1,
      share-small i a.self.now.signature.now a.t h.0 a.self.now.reads a.here h.1,
      share-long i a.self.now.signature.now a.t h.0 a.self.now.reads a.here h.1,
      search rules,
    )

pub returns : goal.returns
returns c =
    let a = c.args in
    let h = c.requires in
    let i = c.args.self.now.tables.lent.is_set in
    let C = cipher a.self.now.tables in
    c.fill_round.ensures
    ∙ ap₂ (λ (o k : Party → Bytes). with_round a.self.now.tables.set a.t (three o) (three k) a.room.now)
    (outputs_as i C a.self.now.public.now a.self.now.signature.now a.t h.0 a.self.now.reads a.here h.1 c.salt.ensures)
    (commitments-as i C a.self.now.public.now a.self.now.signature.now a.t h.0 a.self.now.reads a.here h.1 c.salt.ensures)
