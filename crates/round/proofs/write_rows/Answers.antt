-- `round::write_rows` meets its contract.
use native.Mathlib.Omega.{arith}
use mathlib.Core.Path.{◌∙◌}
use Prim.Native.Nat.{◌*◌}
use Rattle.round.proofs.InputsLaws.{written-bytes, room}
use Rattle.round.proofs.write_rows.Goals as goal

pub returns : goal.returns
returns c =
    let a = c.args in
    let h = room c.requires.0 in
    λ u x. c.write.ensures ∙ written-bytes (3 * a.p.s) a.p.r u a.t.words (omega (arith, h.least)) x
