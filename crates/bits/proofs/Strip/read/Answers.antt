-- `bits::Strip::read` meets its contract.
use native.Mathlib.Omega.{arith}
use mathlib.Core.Path.{◌∙◌, refl}
use lib.ListN.{length-set}
use Rattle.bits.specs.Bits.{from}
use Rattle.bits.specs.Bytes.{bits_of}
use Rattle.bits.proofs.RowsLaws.{cut-none, cut-more, row_from}
use Rattle.bits.proofs.Strip.read.Goals as goal

pub loop-i-init : goal.loop-i-init
loop-i-init c = (refl, cut-none 40 c.args.m _)

pub loop-i-preserved : goal.loop-i-preserved
loop-i-preserved c =
    let a = c.args in
    let l = c.loop-i in (
      simp length-set l.invariant.0,
      cut-more a.m l.i (from a.p (bits_of a.s.now)) l.words c.read_row.result (omega arith)
          (c.read_row.ensures ∙ row_from a.m _ a.p l.i (bits_of a.s.now) refl) l.invariant.1,
    )
