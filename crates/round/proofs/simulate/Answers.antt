-- `round::simulate` meets its contract.
use native.Mathlib.Omega.{arith}
use mathlib.Core.Path.{◌≡◌, refl, ap, ◌∙◌}
use Prim.Native.Nat.{◌+◌}
use lib.ListN.{length, length-set}
use Rattle.sets.specs.declared.Set.{Set}
use Rattle.sets.proofs.Each.{most}
use Rattle.round.proofs.EngineLaws.{three}
use Rattle.round.proofs.SignerLaws.{done_none, done_more, done_all}
use Rattle.round.proofs.simulate.Goals as goal

pub loop-i-init : goal.loop-i-init
loop-i-init c =
    record {
      rounds = most (λ (q : Set). q.r) 38 tt tt tt c.args.tables.now.lent.is_set;
      size = three _ refl refl refl;
      done = done_none _ _ _ _ 40 _ _ _ (three _ refl refl refl) (c.requires 0 (omega arith)) c.begin.ensures;
    }

pub loop-i-preserved : goal.loop-i-preserved
loop-i-preserved c =
    let t = c.args.tables.now in
    let l = c.loop-i in
    let v = l.invariant in
    record {
      rounds = v.rounds;
      size = λ j. ap length (c.put_rows.ensures j) ∙ simp length-set (v.size j);
      done =
          done_more _ _ _ _ l.i _ _ _ _ _ _ _ c.loop-i-test.true (λ j. omega (arith, v.rounds, v.size j)) c.put_rows.ensures
          (c.rows_at.ensures t.keys.now t.layers.now t.constants.now) c.gate_rows-g.ensures
          (c.requires (l.i + 1) (omega arith)) c.step-v.ensures v.done;
    }

pub returns : goal.returns
returns c =
    let l = c.loop-i in
    let e : l.i ≡ c.args.tables.now.set.r = omega (arith, l.auto.i-end) in
    done_all _ _ _ _ l.i e _ l.invariant.done
