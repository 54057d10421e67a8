-- `slices::copy` meets its contract.
use mathlib.Core.Path.{◌≡◌, ap, sym, ◌∙◌}
use mathlib.Core.List.{List, [], ◌∷◌, ◌++◌}
use Prim.Native.Nat.{ℕ, ◌+◌}
use native.Mathlib.Omega.{arith}
use native.Mathlib.Numerals.{add-one}
use lib.ListN.{length, take, get_or, set}
use lib.Seq.{take-suc, take-length, length-take-le}
use Rattle.slices.specs.Slices.{over}
use Rattle.slices.proofs.SliceLaws.{over_none, over_store}
use Rattle.slices.proofs.copy.Goals as goal

pub loop-i-init : goal.loop-i-init
loop-i-init c = over_none _

pub loop-i-preserved : goal.loop-i-preserved
loop-i-preserved c =
    let s = c.args.s.now in
    let d = c.args.d.now in
    let i = c.loop-i.i in
    let l : length (take i s) ≡ i = length-take-le i s (omega arith) in
    let e : take (i + 1) s ≡ take i s ++ (get_or s i 0 ∷ []) = rw (add-one, take-suc s i 0 (omega arith)) in
    ap (λ (x : List ℕ). set x i (get_or s i 0)) c.loop-i.invariant
    ∙ (ap (λ (k : ℕ). set (over (take i s) d) k (get_or s i 0)) (sym l)
    ∙ (over_store (take i s) d (get_or s i 0) (omega (arith, l)) ∙ ap (λ (x : List ℕ). over x d) (sym e)))

pub returns : goal.returns
returns c =
    let e : c.loop-i.i ≡ length c.args.s.now = omega arith in
    c.loop-i.invariant ∙ ap (λ (x : List ℕ). over x c.args.d.now) (ap (λ (k : ℕ). take k c.args.s.now) e ∙ take-length c.args.s.now)
