-- `shake::state::add_part` meets its contract. The invariants: the bytes of the first q words are added; then q bytes behind the words.
use mathlib.Core.Path.{◌≡◌}
use Prim.Native.Nat.{◌+◌, ◌*◌, ◌/◌}
use lib.ListN.{length, take}
use Rattle.shake.specs.Shake.{added}
use Rattle.shake.proofs.state.add_part.Given as goal

abbrev pub invariant-loop-q : goal.invariant-loop-q
invariant-loop-q l = (l.a ≡ added l.fn.a l.j (take (8 * l.q) l.s))

abbrev pub invariant-loop-q-2 : goal.invariant-loop-q-2
invariant-loop-q-2 l = l.a ≡ added l.fn.a l.j (take (8 * (length l.s / 8) + l.q) l.s)
