-- `signature::put_rounds` meets its contract.
use Rattle.signature.proofs.PackLaws.{Packed}
use Rattle.signature.proofs.put_rounds.Given as goal

abbrev pub invariant-loop-k : goal.invariant-loop-k
invariant-loop-k l = Packed l.p l.x l.initial.output l.from l.at l.k l.output
