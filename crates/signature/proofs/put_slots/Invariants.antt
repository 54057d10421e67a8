-- `signature::put_slots` meets its contract.
use Rattle.signature.proofs.UnpackLaws.{Unpacked}
use Rattle.signature.proofs.put_slots.Given as goal

abbrev pub invariant-loop-k : goal.invariant-loop-k
invariant-loop-k l = Unpacked l.p l.s l.initial.output l.at l.to l.k l.output
