-- `verifier::verifying::Verifying::judge` meets its contract.
use mathlib.Core.Path.{refl, sym, ◌∙◌}
use native.Mathlib.Omega.{arith}
use Rattle.shape.specs.Header.{values}
use Rattle.room.proofs.RoomLaws.{sizes}
use Rattle.answers.proofs.OutcomeLaws.{handed_on}
use Rattle.verifier.proofs.VerdictLaws.{block_as, verdict_short, verdict_differs, verdict_fine, values-long}
use Rattle.verifier.proofs.verifying.Verifying.judge.Goals as goal

pub challenge-requires : goal.challenge-requires
challenge-requires c =
    let i = c.args.self.now.tables.lent.is_set in
    (i, (sizes i).rounds)

pub slice_bounds-values-end : goal.slice_bounds-values-end
slice_bounds-values-end c = omega (arith, c.challenge.auto.out, (sizes c.args.self.now.tables.lent.is_set).rounds)

pub slice_bounds-agrees-end : goal.slice_bounds-agrees-end
slice_bounds-agrees-end c =
    let s = c.args.self.now in
    sym (values-long (values s.tables.set s.signature.now) refl c.challenge.ensures c.in_ok-challenge.was)

pub agrees-requires : goal.agrees-requires
agrees-requires c =
    let s = c.args.self.now in
    values-long (values s.tables.set s.signature.now) refl c.challenge.ensures c.in_ok-challenge.was

pub returns-then-agrees : goal.returns-then-agrees
returns-then-agrees c =
    let a = c.args in
    let s = a.self.now in
    verdict_fine (values s.tables.set s.signature.now)
    (block_as s.tables.set a.filled.now s.signature.now s.public.now a.message.now c.salt.ensures)
    c.challenge.ensures c.in_ok-challenge.was (sym c.agrees.ensures ∙ c.if-agrees.true)

pub returns-in_err-challenge : goal.returns-in_err-challenge
returns-in_err-challenge c =
    let a = c.args in
    let s = a.self.now in
    handed_on _ c.from_residual.ensures.1
    ∙ verdict_short (values s.tables.set s.signature.now)
    (block_as s.tables.set a.filled.now s.signature.now s.public.now a.message.now c.salt.ensures)
    c.challenge.ensures c.in_err-challenge.was

pub returns : goal.returns
returns c =
    let a = c.args in
    let s = a.self.now in
    verdict_differs (values s.tables.set s.signature.now)
    (block_as s.tables.set a.filled.now s.signature.now s.public.now a.message.now c.salt.ensures)
    c.challenge.ensures c.in_ok-challenge.was (sym c.agrees.ensures ∙ c.if-agrees.false)
