-- `shake::state::give_words` meets its contract. The invariant: q lanes are stored.
use mathlib.Core.Path.{◌≡◌}
use Prim.Native.Nat.{◌*◌}
use Rattle.slices.specs.Slices.{over}
use Rattle.shake.specs.Shake.{bytes_at}
use Rattle.shake.proofs.state.give_words.Given as goal

abbrev pub invariant-loop-q : goal.invariant-loop-q
invariant-loop-q l = l.out ≡ over (bytes_at l.a (8 * l.k) (8 * l.q)) l.initial.out
