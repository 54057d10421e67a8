-- `lowmc::Tables::step` meets its contract.
use native.Mathlib.Omega.{arith}
use Rattle.bits.specs.Words.{block_bits}
use Rattle.lowmc.proofs.EncryptedLaws.{step_of}
use Rattle.lowmc.proofs.tables.Tables.step.Goals as goal

pub returns : goal.returns
returns c =
    let a = c.args in
    let t = a.self.now in
    step_of t.set t.keys.now t.layers.now t.constants.now a.i (block_bits a.key) (block_bits a.x) _ _ _
    c.sboxes.ensures c.constant-c.ensures (c.turn.ensures 0 (omega arith))
