-- `shake::state::add_byte` meets its contract: the shifted byte keeps all its bits.
use Prim.Native.Nat.{◌+◌, ◌*◌, ◌%◌, ◌≤◌}
use native.Mathlib.Omega.{arith}
use lib.Pow.{shl_exact}
use Rattle.shake.specs.Shake.{byte_added}
use Rattle.shake.proofs.state.add_byte.Goals as goal

pub returns : goal.returns
unfolding byte_added
returns c =
    let j = c.args.j in
    let h : 8 + 8 * (j % 8) ≤ 64 = omega arith in
    rw (c.from.ensures, shl_exact 8 (8 * (j % 8)) 64 c.ranges.b.fits h)
