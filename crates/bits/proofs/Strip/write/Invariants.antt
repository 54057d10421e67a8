-- `bits::Strip::write` meets its contract.
use mathlib.Core.Path.{◌≡◌}
use Prim.Native.Nat.{◌+◌, ◌*◌, ◌<◌}
use Rattle.slices.specs.Slices.{put}
use Rattle.bits.specs.Bytes.{bytes}
use Rattle.bits.specs.Rows.{flat, rows_of}
use Rattle.bits.proofs.Strip.write.Given as goal

abbrev pub invariant-loop-b : goal.invariant-loop-b
invariant-loop-b l = (l.d < l.m) × (l.i * l.m + l.d ≡ 8 * l.b-index) × (l.s ≡ put l.initial.s 0 (bytes l.b-index (flat l.m (rows_of l.self.words))))
