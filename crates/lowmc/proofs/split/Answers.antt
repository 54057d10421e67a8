-- `lowmc::split` meets its contract.
use Rattle.bits.proofs.WordsLaws.{holds_self}
use Rattle.lowmc.proofs.LaneLaws.{from-holds, lane-holds}
use Rattle.lowmc.proofs.split.Goals as goal

pub returns : goal.returns
returns c =
    let a = c.args in
    let m = c.firsts-m in
    record {
      at_c = lane-holds a.s _ m.result a.x m.ensures (holds_self a.x);
      at_b = lane-holds a.s _ m.result _ m.ensures (from-holds 1 a.x);
      at_a = lane-holds a.s _ m.result _ m.ensures (from-holds 2 a.x);
    }
