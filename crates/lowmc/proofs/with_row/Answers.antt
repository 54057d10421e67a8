-- `lowmc::with_row` meets its contract. The check finds this alone too; written out, a wrong vector is refused by what it differs in.
use mathlib.Core.Path.{ap₂}
use Prim.Native.Nat.{ℕ, ◌+◌, ◌*◌}
use Rattle.lowmc.proofs.VectorsLaws.{set_more}
use Rattle.lowmc.proofs.with_row.Goals as goal

pub loop-k-preserved : goal.loop-k-preserved
loop-k-preserved g c =
    set_more _ _ _ _ _ c.loop-k.invariant c.loop-k-test.true (λ e. ap₂ (λ (u v : ℕ). u * 2 + v) e c.row_parity.ensures)
