-- `verifier::verifying::Verifying::salt` meets its contract.
use mathlib.Core.Path.{◌≡◌, ap₂}
use Prim.Native.Nat.{ℕ, ◌+◌, ◌-◌}
use native.Mathlib.Omega.{arith}
use Rattle.slices.specs.Slices.{part}
use Rattle.sets.specs.Lengths.{salt_length}
use Rattle.shape.proofs.ReadingLaws.{sound}
use Rattle.verifier.proofs.verifying.Verifying.salt.Goals as goal

pub overflow_add-end : goal.overflow_add-end
overflow_add-end c =
    let s = c.args.self.now in
    omega (arith, (sound s.tables.set s.signature.now s.reads).long, c.header-from.ensures)

pub slice_bounds-result-end : goal.slice_bounds-result-end
slice_bounds-result-end c =
    let s = c.args.self.now in
    omega (arith, (sound s.tables.set s.signature.now s.reads).long, c.header-from.ensures)

pub returns : goal.returns
returns c =
    let n : c.header-from.result + 32 - c.header-from.result ≡ salt_length = omega arith in
    ap₂ (λ (a k : ℕ). part c.args.self.now.signature.now a k) c.header-from.ensures n
