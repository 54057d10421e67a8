-- `lowmc::Tables::constant` meets its contract.
use Rattle.lowmc.proofs.LentLaws.{constant_small, constant_of_lem}
use Rattle.lowmc.proofs.tables.Tables.constant.Goals as goal

pub load-requires : goal.load-requires
load-requires c =
    let t = c.args.self.now in
    constant_small t.lent.is_set c.width.result c.width.ensures c.args.i t.constants.now t.lent.constants-length c.requires _ c.piece.ensures

pub returns : goal.returns
returns c =
    let t = c.args.self.now in
    constant_of_lem t.lent.is_set c.width.result c.width.ensures c.args.i t.constants.now t.lent.constants-length c.requires _ c.piece.ensures _
    c.load.ensures
