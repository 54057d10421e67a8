-- `lowmc::Tables::encrypt` meets its contract.
use Rattle.bits.specs.Bits.{Bits}
use Rattle.bits.specs.Words.{block_bits}
use Rattle.sets.specs.Lengths as lengths
use Rattle.lowmc.proofs.LentLaws.{block_small, output-small}
use Rattle.lowmc.proofs.EncryptedLaws.{stored_of, start-written}
use Rattle.lowmc.proofs.tables.Tables.encrypt.Goals as goal

pub load-key-requires : goal.load-key-requires
load-key-requires c =
    block_small c.args.self.now.lent.is_set c.args.secret.now c.requires.0

pub load-requires : goal.load-requires
load-requires c =
    block_small c.args.self.now.lent.is_set c.args.block.now c.requires.1

pub store-requires : goal.store-requires
store-requires c =
    let w = c.width-w in
    output-small c.args.self.now.lent.is_set w.result c.args.output.now w.ensures

pub returns : goal.returns
returns c =
    let a = c.args in
    let t = a.self.now in
    let h = c.requires in
    let w = c.width-w in
    let x : Bits = block_bits c.encryption-x.result in
    start-written a.output.now _ _ w.result (lengths.w t.set) x w.ensures h.2 c.store.ensures
    (stored_of t.set t.keys.now t.layers.now t.constants.now t.lent.is_set a.secret.now a.block.now h.1 _ _ x
    c.load-key.ensures c.load.ensures c.encryption-x.ensures)
