-- `parts::padding_wrong` meets its contract.
use Rattle.parts.proofs.WalkLaws.{Padded}
use Rattle.parts.proofs.padding_wrong.Given as goal

abbrev pub invariant-loop-k : goal.invariant-loop-k
invariant-loop-k l = Padded l.p l.s l.at l.k
