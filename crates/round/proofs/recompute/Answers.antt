-- `round::recompute` meets its contract.
use native.Mathlib.Omega.{arith}
use mathlib.Core.Path.{◌≡◌, refl}
use lib.ListN.{length-set}
use Rattle.bits.specs.Rows.{rows_of}
use Rattle.sets.specs.declared.Set.{Set}
use Rattle.sets.proofs.Each.{most}
use Rattle.round.specs.Engine.{opening_on_words}
use Rattle.round.proofs.VerifierLaws.{goes, followed_none, followed_more, followed_all}
use Rattle.round.proofs.recompute.Goals as goal

pub loop-i-init : goal.loop-i-init
loop-i-init c =
    let s = c.start_shares-s.ensures in
    record {
      rounds = most (λ (q : Set). q.r) 38 tt tt tt c.args.tables.now.lent.is_set;
      size = refl;
      followed = λ j h. followed_none _ _ j (opening_on_words c.args.share1 c.args.share2 _ _ _) _ _ (goes c.args.e j h) 40 _ _ (s 0 (omega arith)) (s 1 (omega arith));
    }

pub loop-i-preserved : goal.loop-i-preserved
unfolding rows_of
loop-i-preserved c =
    let l = c.loop-i in
    let s = c.advance_shares-next.ensures in
    record {
      rounds = l.invariant.rounds;
      size = simp length-set l.invariant.size;
      followed = λ j h. followed_more _ _ j _ _ _ (goes c.args.e j h) l.i _ _ _ _ _ l.words (omega (arith, l.invariant.rounds, l.invariant.size)) c.gate_row-g.ensures (s 0 (omega arith)) (s 1 (omega arith)) (l.invariant.followed j h);
    }

pub returns : goal.returns
returns c =
    let l = c.loop-i in
    let e : l.i ≡ c.args.tables.now.set.r = omega (arith, l.auto.i-end) in
    λ j h. followed_all _ _ j _ l.i e _ (l.invariant.followed j h)
