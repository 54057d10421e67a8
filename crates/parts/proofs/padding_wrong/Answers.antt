-- `parts::padding_wrong` meets its contract.
use mathlib.Core.Path.{ap, sym, ◌∙◌}
use Prim.Native.Nat.{ℕ, ◌+◌}
use native.Mathlib.Omega.{arith}
use Rattle.shape.proofs.RoundsLaws.{sizes_bounds}
use Rattle.shape.proofs.RoundTripsProof.{exact-long}
use Rattle.shape.proofs.SetFacts.{digest≤, round_most≤}
use Rattle.parts.proofs.HeadLaws.{value_inside}
use Rattle.parts.proofs.WalkLaws.{transcript-within, reached-most, padded-first, padded-more, padded_fails, padded_end}
use Rattle.parts.proofs.padding_wrong.Goals as goal

pub loop-k-init : goal.loop-k-init
loop-k-init c = padded-first _ _ _ (ap (λ (n : ℕ). n + 32) c.header-at.ensures)

pub overflow_add-at-in-loop-k : goal.overflow_add-at-in-loop-k
overflow_add-at-in-loop-k c =
    omega (arith, reached-most c.loop-k.invariant.reached c.requires.0, digest≤ c.requires.0)

pub padded-requires : goal.padded-requires
padded-requires c =
    transcript-within c.loop-k.invariant.reached c.requires.0 c.loop-k-test.true c.requires.1 _
    c.gates-m.ensures

pub returns-then-not-padded : goal.returns-then-not-padded
returns-then-not-padded c =
    padded_fails c.loop-k.invariant c.requires.0 _
    c.gates-m.ensures c.loop-k-test.true
    (sym (c.if-not-padded.true) ∙ c.padded.ensures)

pub value-requires : goal.value-requires
value-requires c =
    value_inside c.args.p _ _ (omega (arith, exact-long c.args.p c.args.s.now c.requires.1))
    c.loop-k-test.true

pub overflow_add-at-in-loop-k-2 : goal.overflow_add-at-in-loop-k-2
overflow_add-at-in-loop-k-2 c =
    omega (
      arith,
      reached-most c.loop-k.invariant.reached c.requires.0,
      sizes_bounds
          c.args.p c.value.result,
      round_most≤ c.requires.0,
    )

pub loop-k-preserved : goal.loop-k-preserved
loop-k-preserved c =
    padded-more c.loop-k.invariant c.requires.0 _
    c.gates-m.ensures
    c.loop-k-test.true
    (sym (c.if-not-padded.false) ∙ c.padded.ensures) _ _ c.value.ensures
    c.round_length-at.ensures

pub returns : goal.returns
returns c =
    padded_end c.loop-k.invariant c.requires.0 _ c.gates-m.ensures c.loop-k-test.false
