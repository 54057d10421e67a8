-- `keccak::permute` meets its contract. The invariant: a round is done for each constant passed.
use mathlib.Core.Path.{◌≡◌}
use native.Mathlib.Omega.{arith}
use Rattle.keccak.specs.Lanes.{permuted}
use Rattle.keccak.proofs.LanesLaws.{constant_at, rounds-none, rounds-more}
use Rattle.keccak.proofs.permute.Goals as goal

pub loop-k-init : goal.loop-k-init
loop-k-init c = rounds-none _

pub loop-k-preserved : goal.loop-k-preserved
loop-k-preserved c =
    let l = c.loop-k in
    rounds-more _ _ _ _ _ l.k-index _ l.invariant c.theta.ensures c.rho_pi.ensures c.chi-s.ensures (constant_at l.k-index (omega arith))

pub returns : goal.returns
unfolding permuted
returns c =
    let l = c.loop-k in
    let e : l.k-index ≡ 24 = omega arith in
    rw e at l.invariant
