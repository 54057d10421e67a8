-- `shake::state::give_bytes` meets its contract. The invariant: q bytes are stored.
use mathlib.Core.Path.{◌≡◌}
use Rattle.slices.specs.Slices.{over}
use Rattle.shake.specs.Shake.{bytes_at}
use Rattle.shake.proofs.state.give_bytes.Given as goal

abbrev pub invariant-loop-q : goal.invariant-loop-q
invariant-loop-q l = l.out ≡ over (bytes_at l.a l.j l.q) l.initial.out
