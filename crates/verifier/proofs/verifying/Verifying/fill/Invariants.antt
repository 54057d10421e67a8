-- `verifier::verifying::Verifying::fill` meets its contract.
use mathlib.Core.Path.{◌≡◌}
use Rattle.lowmc.specs.Cipher.{cipher}
use Rattle.shape.specs.Form.{form}
use Rattle.parts.specs.Places.{Stands}
use Rattle.views.specs.Input.{opened_outputs, opened_commitments}
use Rattle.room.proofs.HeldLaws.{Held}
use Rattle.verifier.proofs.verifying.Verifying.fill.Given as goal

abbrev pub invariant-loop-t : goal.invariant-loop-t
invariant-loop-t l = (l.cursor.round ≡ l.t) × Stands l.self.tables.set l.self.signature.now l.cursor
    × Held l.self.tables.set l.t (opened_outputs l.self.tables.set (cipher l.self.tables) l.self.public.now (form l.self.tables.set l.self.signature.now)) (opened_commitments l.self.tables.set (cipher l.self.tables) l.self.public.now (form l.self.tables.set l.self.signature.now)) l.initial.room l.room
