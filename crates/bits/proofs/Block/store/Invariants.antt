-- `bits::Block::store` meets its contract.
use mathlib.Core.Path.{◌≡◌}
use Prim.Native.Nat.{◌*◌}
use lib.ListN.{length}
use Rattle.slices.specs.Slices.{put}
use Rattle.bits.specs.Bytes.{bytes}
use Rattle.bits.specs.Words.{list_bits}
use Rattle.bits.proofs.Block.store.Given as goal

abbrev pub invariant-loop-k : goal.invariant-loop-k
invariant-loop-k l = (length l.b ≡ 32) × (l.b ≡ put l.initial.b 0 (bytes (8 * l.k) (list_bits l.fn.self.words)))
