-- `lowmc::ones` meets its contract.
use Prim.Native.Nat.{◌<◌, ◌^◌}
use Rattle.lowmc.proofs.ProductLaws.{ones_odd}
use borrow.Author.Rules.{rules}
use Rattle.lowmc.proofs.ones.Goals as goal

pub returns : goal.returns
returns c =
    let a = c.args in
    let w = c.load_low in
    let f : w.result < 2 ^ 64 = search rules in
    ones_odd a.row.now a.v a.k w.result f w.ensures
