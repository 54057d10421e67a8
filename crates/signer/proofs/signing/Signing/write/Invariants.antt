-- `signer::signing::Signing::write` meets its contract.
use Rattle.lowmc.specs.Cipher.{cipher}
use Rattle.signer.proofs.WriteRoundsLaws.{Rounds}
use Rattle.signer.proofs.signing.Signing.write.Given as goal

abbrev pub invariant-loop-t : goal.invariant-loop-t
invariant-loop-t l =
    Rounds l.self.tables.set (cipher l.self.tables) l.self.secret.now l.self.public.now l.self.seeds.now l.values l.initial.output l.t l.at l.output
