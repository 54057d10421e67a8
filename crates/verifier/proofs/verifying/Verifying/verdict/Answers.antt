-- `verifier::verifying::Verifying::verdict` meets its contract.
use mathlib.Core.Path.{◌∙◌}
use Rattle.lowmc.specs.Cipher.{cipher}
use Rattle.shape.specs.Form.{form}
use Rattle.views.specs.Input.{verifier_filling}
use Rattle.room.proofs.AfterLaws.{filled_front, filled-cleared}
use Rattle.verifier.proofs.VerifyLaws.{verdict_as}
use Rattle.verifier.proofs.verifying.Verifying.verdict.Goals as goal

pub returns : goal.returns
returns c =
    let a = c.args in
    let s = a.self.now in
    let p = s.tables.set in
    let F = verifier_filling p (cipher s.tables) s.public.now (form p s.signature.now) in
    let f = c.fill.ensures in (
      c.judge-verdict.ensures
          ∙ verdict_as p s.tables.keys.now s.tables.layers.now s.tables.constants.now s.public.now a.message.now s.signature.now _ a.limit s.reads
          (filled_front p F a.room.now f.1 f.0 _ c.room_length-n.ensures),
      filled-cleared p F a.room.now f.1 f.0 _ c.room_length-n.ensures c.clear.ensures,
    )
