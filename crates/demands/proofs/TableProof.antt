-- P1 to P12 hold.
use mathlib.Core.Path.{ap}
use mathlib.Core.List.{List, [], ◌∷◌, ◌++◌}
use Prim.Native.Nat.{ℕ, ◌≤◌}
use lib.Dec.{lit≤}
use Rattle.sets.specs.declared.Set.{Set}
use Rattle.sets.proofs.Each.{each}
use Rattle.circuit.specs.Examples.{SboxExamples, GateExample}
use Rattle.circuit.proofs.ExamplesProof.{sbox_examples, gate_example}
use Rattle.challenge.specs.Examples.{PairExamples}
use Rattle.challenge.proofs.ExamplesProof.{pair_examples}
use Rattle.shape.specs.Examples.{P12}
use Rattle.shape.proofs.ExamplesProof.{p12}
use Rattle.demands.specs.Table.{results, Table}

pub table : Table
unfolding Table results SboxExamples GateExample PairExamples P12
table set q vs =
    let some = each (λ (p : Set). 1 ≤ p.s) (lit≤ tt) (lit≤ tt) (lit≤ tt) q in
    let (p9, p10) = pair_examples in
    rw (p9, p10, gate_example, p12 set q vs)
    (ap (λ (xs : List (List ℕ)). xs ++ ((0 ∷ 1 ∷ 2 ∷ []) ∷ [] ∷ (0 ∷ 1 ∷ 0 ∷ []) ∷ (0x24 ∷ []) ∷ [])) (sbox_examples set.s some))
