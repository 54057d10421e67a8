-- `signer::signing::Signing::fill` meets its contract.
use Rattle.room.proofs.HeldLaws.{Held}
use Rattle.signer.specs.Making.{outputs_of, commitments_of}
use Rattle.signer.proofs.signing.Signing.fill.Given as goal

abbrev pub invariant-loop-t : goal.invariant-loop-t
invariant-loop-t l = Held l.self.tables.set l.t (outputs_of l.self) (commitments_of l.self) l.initial.room l.room
