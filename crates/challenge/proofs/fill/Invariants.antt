-- `challenge::fill` meets its contract.
use mathlib.Core.Path.{◌≡◌}
use mathlib.Core.List.{◌++◌}
use Prim.Native.Nat.{◌-◌, ◌≤◌}
use lib.ListN.{length, take}
use Rattle.slices.specs.Slices.{Bytes}
use Rattle.challenge.specs.Pairs.{values_to}
use Rattle.challenge.specs.Blocks.{chain, stream_values}
use Rattle.challenge.proofs.FillingLaws.{Filling}
use Rattle.challenge.proofs.fill.Given as goal

-- of block k the first j pairs are read: whatever was written before the block, its values stand behind that
abbrev pub invariant-loop-j : goal.invariant-loop-j
invariant-loop-j l = (l.j ≤ l.pairs) × ((xs before : Bytes) → Filling l.t xs l.initial.got before l.initial.out → Filling l.t (xs ++ values_to l.j l.b) l.got before l.out)

abbrev pub decreases-loop-j : goal.decreases-loop-j
decreases-loop-j l = l.pairs - l.j

-- k blocks are read, and b holds block k
abbrev pub invariant-reading : goal.invariant-reading
invariant-reading l = (l.k ≤ l.limit) × (length l.b ≡ 64) × (take l.digest l.b ≡ chain l.p (take l.digest l.initial.b) l.k) × Filling l.t (stream_values l.p (take l.digest l.initial.b) l.k) l.got l.initial.out l.out

abbrev pub decreases-reading : goal.decreases-reading
decreases-reading l = l.limit - l.k
