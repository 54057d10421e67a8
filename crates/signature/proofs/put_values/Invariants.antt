-- `signature::put_values` meets its contract.
use Rattle.std.proofs.Common.{ℕ, ◌≡◌, ◌<◌, get_or}
use Rattle.shape.specs.Header.{value_at}
use Rattle.signature.proofs.put_values.Given as goal

abbrev pub invariant-loop-k : goal.invariant-loop-k
invariant-loop-k l = (k : ℕ) → k < l.k → get_or l.v-items k 0 ≡ value_at l.s k
