-- `lowmc::Tables::encryption` meets its contract.
use native.Mathlib.Omega.{arith}
use Rattle.bits.specs.Words.{block_bits}
use Rattle.circuit.proofs.LowmcLaws.{state-none, state-more, state-last}
use Rattle.lowmc.specs.Cipher.{cipher}
use Rattle.lowmc.proofs.tables.Tables.encryption.Goals as goal

pub loop-i-init : goal.loop-i-init
loop-i-init c =
    let a = c.args in
    state-none (cipher a.self.now) (block_bits a.key) (block_bits a.block) _ (c.start.ensures 0 (omega arith))

pub loop-i-preserved : goal.loop-i-preserved
loop-i-preserved c =
    let a = c.args in
    let l = c.loop-i in
    state-more (cipher a.self.now) (block_bits a.key) (block_bits a.block) l.i (block_bits l.x) _ l.invariant c.step-x.ensures

pub returns : goal.returns
returns c =
    let a = c.args in
    let l = c.loop-i in
    state-last (cipher a.self.now) (block_bits a.key) (block_bits a.block) l.i (block_bits l.x) (omega arith) l.invariant
