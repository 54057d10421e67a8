-- `parts::full_length` meets its contract.
use Rattle.parts.proofs.WalkLaws.{Reached}
use Rattle.parts.proofs.full_length.Given as goal

abbrev pub invariant-loop-k : goal.invariant-loop-k
invariant-loop-k l = Reached l.p l.s l.at l.k
