-- `lowmc::Tables::public_key` meets its contract.
use Rattle.lowmc.proofs.EncryptedLaws.{key_written}
use Rattle.lowmc.proofs.tables.Tables.public_key.Goals as goal

pub returns : goal.returns
returns c =
    let a = c.args in
    let t = a.self.now in
    let h = c.requires in
    key_written t.set t.keys.now t.layers.now t.constants.now a.secret.now a.block.now a.output.now _ _ c.width.result
    c.width.ensures h.1 h.2 c.encrypt.ensures c.place.ensures
