-- `vectors::shake_cases` meets its contract: no more agree than there are cases.
use Rattle.std.proofs.Common.{◌≤◌}
use Rattle.vectors.proofs.shake_cases.Given as goal

abbrev pub invariant-loop-line : goal.invariant-loop-line
invariant-loop-line l =
    (l.tally.1.0 ≤ l.tally.0)
    × (goal.iterator-loop-line).can_next l.line-iterator
    × (goal.iterator-loop-line).is_finite l.line-iterator
