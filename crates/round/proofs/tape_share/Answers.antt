-- `round::tape_share` meets its contract.
use native.Mathlib.Omega.{arith}
use Prim.Native.Nat.{◌-◌}
use lib.ListN.{length-take}
use Rattle.sets.specs.Lengths.{w}
use Rattle.lowmc.proofs.LentLaws.{whole, words}
use Rattle.round.proofs.InputsLaws.{share_of}
use Rattle.round.proofs.tape_share.Goals as goal

pub load-requires : goal.load-requires
load-requires c = let h = words c.requires.0 in omega (arith, c.width-w.ensures, h.most, length-take (c.width-w.result - 0) c.args.tape.now)

pub returns : goal.returns
returns c = let a = c.args in share_of a.p.n c.width-w.result (w a.p) a.tape.now _ c.width-w.ensures (whole c.requires.0) c.load.ensures
