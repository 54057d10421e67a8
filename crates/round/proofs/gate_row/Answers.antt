-- `round::gate_row` meets its contract.
use native.Mathlib.Omega.{arith}
use Prim.Native.Nat.{◌*◌}
use Rattle.bits.specs.Words.{block_bits}
use Rattle.lowmc.proofs.LentLaws.{in_word}
use Rattle.round.proofs.GateLaws.{row_of}
use Rattle.round.proofs.gate_row.Goals as goal

pub returns : goal.returns
returns c =
    let a = c.args in
    let h = in_word c.requires in
    row_of (3 * a.p.s) (block_bits a.x) (block_bits a.y) a.t a.u _ _ _ _ _ (omega (arith, h.fits)) c.left-a.ensures c.right-b.ensures c.left-c.ensures c.right-d.ensures c.top.ensures
