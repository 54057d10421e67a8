-- `round::rows_at` meets its contract.
use Rattle.circuit.specs.Tapes.{tape_rows}
use Rattle.lowmc.specs.Lent.{cipher_of}
use Rattle.round.specs.Inputs.{tapes_of}
use Rattle.round.proofs.EngineLaws.{three}
use mathlib.Core.Path.{◌≡◌}
use Rattle.round.proofs.rows_at.Goals as goal

pub returns : goal.returns
unfolding tape_rows
returns c =
    let a = c.args in
    λ keys layers constants. three (λ j. _ ≡ tapes_of (cipher_of a.p keys layers constants) a.t0.now a.t1.now a.t2.now j a.i)
    c.row_from.ensures c.row_from-2.ensures c.row_from-3.ensures
