-- `signer::in_bytes` meets its contract.
use Rattle.circuit.specs.Round.{party0, party1, party2}
use Rattle.signer.proofs.in_bytes.Goals as goal

pub transcribed-requires : goal.transcribed-requires
transcribed-requires c = (c.requires.0, c.requires.1 party0)

pub transcribed-requires-2 : goal.transcribed-requires-2
transcribed-requires-2 c = (c.requires.0, c.requires.1 party1)

pub transcribed-requires-3 : goal.transcribed-requires-3
transcribed-requires-3 c = (c.requires.0, c.requires.1 party2)
