-- `round::recompute_tapes` meets its contract.
use mathlib.Core.Path.{refl}
use Rattle.round.proofs.InputsLaws.{next-number, from_start}
use Rattle.round.proofs.VerifierLaws.{recomputed_cong}
use Rattle.circuit.specs.Round.{next}
use Rattle.round.proofs.recompute_tapes.Goals as goal

pub returns : goal.returns
returns c =
    let a = c.args in
    let t = a.tables.now in
    λ j h. recomputed_cong _ _ j _ _
    (record {
      share₁ = refl;
      share₂ = refl;
      tape₁ = c.tape_rows-a.ensures j h t.keys.now t.layers.now t.constants.now;
      tape₂ = c.tape_rows-b.ensures (next j) (next-number a.e j h) t.keys.now t.layers.now t.constants.now;
      transcript₂ = from_start t.set a.given.now _ c.rows_from-c.ensures;
    }) _ (c.recompute.ensures j h)
