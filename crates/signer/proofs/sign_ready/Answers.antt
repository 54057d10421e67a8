-- `signer::sign_ready` meets its contract.
use mathlib.Core.Path.{refl, ap}
use native.Mathlib.Omega.{arith}
use lib.ListN.{take}
use Rattle.answers.specs.Answers.{as_answer}
use Rattle.answers.proofs.OutcomeLaws.{handed_on}
use Rattle.signer.specs.Making.{handed_in}
use Rattle.signer.proofs.WriteRoundsLaws.{signature_short}
use Rattle.signer.proofs.SignLaws.{room-cleared, finished_few, length-values, are_values, finished_full}
use Rattle.signer.proofs.sign_ready.Goals as goal

pub returns-in_err-drawn : goal.returns-in_err-drawn
returns-in_err-drawn c =
    let a = c.args in
    let i = a.signing.now.tables.lent.is_set in
    let g = handed_in 0 a.signing.now a.message.now a.limit a.room.now a.output.now in
    λ set. finished_few i _ c.fill.ensures c.challenged-drawn.ensures c.in_err-drawn.was (ap as_answer (handed_on _ c.from_residual.ensures.1))
    (room-cleared i g c.fill.ensures _ c.room_length-needed.ensures c.clear.ensures)

pub write-requires : goal.write-requires
write-requires c =
    let a = c.args in
    let i = a.signing.now.tables.lent.is_set in
    let g = handed_in 0 a.signing.now a.message.now a.limit a.room.now a.output.now in (
      length-values i g c.fill.ensures c.challenged-drawn.ensures c.in_ok-drawn.was,
      are_values i g c.fill.ensures c.challenged-drawn.ensures c.in_ok-drawn.was,
      c.requires.1,
    )

pub overflow_cast-result : goal.overflow_cast-result
overflow_cast-result c =
    let a = c.args in
    let s = a.signing.now in
    let i = s.tables.lent.is_set in
    let g = handed_in 0 s a.message.now a.limit a.room.now a.output.now in
    let vs = take s.tables.set.t c.challenged-drawn.new.values in
    omega (arith, c.write.ensures.0, signature_short i s.tables.keys.now s.tables.layers.now s.tables.constants.now s.secret.now s.public.now s.seeds.now vs s.ready.seeds-long (length-values i g c.fill.ensures c.challenged-drawn.ensures c.in_ok-drawn.was))

pub returns : goal.returns
returns c =
    let a = c.args in
    let i = a.signing.now.tables.lent.is_set in
    let g = handed_in 0 a.signing.now a.message.now a.limit a.room.now a.output.now in
    λ set. finished_full i _ c.fill.ensures c.challenged-drawn.ensures c.in_ok-drawn.was c.write.ensures.0 c.write.ensures.1 refl
    (room-cleared i g c.fill.ensures _ c.room_length-needed.ensures c.clear.ensures)
