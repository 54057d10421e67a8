-- `round::all_states` meets its contract.
use native.Mathlib.Omega.{arith}
use lib.ListN.{length-set}
use Rattle.sets.specs.declared.Set.{Set}
use Rattle.sets.proofs.Each.{most}
use Rattle.circuit.specs.Lowmc.{state_after}
use Rattle.circuit.proofs.LowmcLaws.{state-none, state-more}
use Rattle.round.proofs.EngineLaws.{one_state, more_states}
use Rattle.round.proofs.all_states.Goals as goal

pub loop-i-init : goal.loop-i-init
loop-i-init c =
    let s = state-none _ _ _ _ (c.start.ensures 0 (omega arith)) in
    record {
      rounds = most (λ (q : Set). q.r) 38 tt tt tt c.args.tables.now.lent.is_set;
      size = simp length-set c.told-states;
      state = s;
      traced = one_state _ _ (state_after _ _ _) (omega arith) s;
    }

pub loop-i-preserved : goal.loop-i-preserved
loop-i-preserved c =
    let l = c.loop-i in
    let s = state-more _ _ _ l.i _ _ l.invariant.state c.step-x.ensures in
    record {
      rounds = l.invariant.rounds;
      size = simp length-set l.invariant.size;
      state = s;
      traced = more_states l.i _ _ (state_after _ _ _) (omega (arith, l.invariant.size)) s l.invariant.traced;
    }
