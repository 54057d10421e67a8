-- `challenge::challenge` meets its contract.
use native.Mathlib.Omega.{arith}
use mathlib.Core.Path.{refl, sym, ap, ◌∙◌, subst}
use Prim.Native.Nat.{ℕ, ◌≤◌}
use lib.ListN.{length}
use lib.Seq.{length-take-le}
use mir.Facts.{Fits-below}
use Rattle.std.proofs.Common.{Err}
use Rattle.slices.specs.Slices.{Bytes, over}
use Rattle.sets.specs.declared.Set.{Set}
use Rattle.sets.specs.Sets.{IsSet}
use Rattle.sets.proofs.Each.{known_set, most}
use Rattle.answers.specs.declared.Refusal.TheVariants.{Limit, Room}
use Rattle.answers.proofs.OutcomeLaws.{promise_refused, promise_given, handed_on, no_such_set}
use Rattle.challenge.proofs.BlocksLaws.{length-first}
use Rattle.challenge.proofs.FillingLaws.{fills_short, fills_full, fills_front}
use Rattle.challenge.proofs.ChallengeCallLaws.{challenged_no_set, challenged-limit, challenged-room, challenged-few, challenged-given}
use Rattle.challenge.proofs.challenge.Goals as goal

-- the array of values is long enough
t_most : {p : Set} → IsSet p → p.t ≤ 438
t_most = most (λ (p : Set). p.t) 438 tt tt tt

pub returns-in_err-p : goal.returns-in_err-p
returns-in_err-p c =
    promise_refused _ _ _ (challenged_no_set _ _ _ _ (sym c.numbered.ensures ∙ c.in_err-p.ensures.ok_part))
    (no_such_set _ c.in_err-p.ensures.ok_part c.in_err-p.ensures.value c.from_residual.ensures.1)

pub returns-then-limit_out : goal.returns-then-limit_out
returns-then-limit_out c =
    promise_refused _ Limit _
    (challenged-limit _ _ _ _ _ (sym c.numbered.ensures ∙ c.in_ok-p.ensures.ok_part) (sym c.limit_out.ensures ∙ c.if-limit_out.true)) refl

pub returns-then-output-t : goal.returns-then-output-t
returns-then-output-t c =
    promise_refused _ Room _
    (challenged-room _ _ _ _ _ (sym c.numbered.ensures ∙ c.in_ok-p.ensures.ok_part) (sym c.limit_out.ensures ∙ c.if-limit_out.false)
    c.if-output-t.true) refl

pub block-requires : goal.block-requires
block-requires c = known_set c.args.set _ (sym c.numbered.ensures ∙ c.in_ok-p.ensures.ok_part)

pub fill-requires : goal.fill-requires
fill-requires c = let s = known_set c.args.set _ (sym c.numbered.ensures ∙ c.in_ok-p.ensures.ok_part) in (s, t_most s)

pub returns-in_err-fill : goal.returns-in_err-fill
returns-in_err-fill c =
    let few = fills_short (rw c.block.ensures at c.fill.ensures) (c.in_err-fill.was) in
    promise_refused _ _ _
    (challenged-few _ _ _ _ _ (sym c.numbered.ensures ∙ c.in_ok-p.ensures.ok_part) (sym c.limit_out.ensures ∙ c.if-limit_out.false)
    c.if-output-t.false few.0)
    (handed_on _ c.from_residual-in_err-fill.ensures.1 ∙ ap Err few.1)

pub slice_bounds-values-end : goal.slice_bounds-values-end
slice_bounds-values-end c =
    omega (arith, c.fill.auto.out, t_most (known_set c.args.set _ (sym c.numbered.ensures ∙ c.in_ok-p.ensures.ok_part)))

pub slice_bounds-copy-end : goal.slice_bounds-copy-end
slice_bounds-copy-end c =
    sym (length-take-le _ _ (omega (arith, c.fill.auto.out, t_most (known_set c.args.set _ (sym c.numbered.ensures ∙ c.in_ok-p.ensures.ok_part)))))

pub copy-requires : goal.copy-requires
copy-requires c =
    subst (λ (n : ℕ). n ≤ length c.args.output.now)
    (sym (length-take-le _ _ (omega (arith, c.fill.auto.out, t_most (known_set c.args.set _ (sym c.numbered.ensures ∙ c.in_ok-p.ensures.ok_part))))))
    c.if-output-t.false

pub overflow_cast-result : goal.overflow_cast-result
overflow_cast-result c = Fits-below tt (t_most (known_set c.args.set _ (sym c.numbered.ensures ∙ c.in_ok-p.ensures.ok_part)))

pub returns : goal.returns
returns c =
    let f = rw c.block.ensures at c.fill.ensures in
    let told = c.in_ok-fill.was in
    promise_given _ _ _ _ _
    (challenged-given _ _ _ _ _ (sym c.numbered.ensures ∙ c.in_ok-p.ensures.ok_part) (sym c.limit_out.ensures ∙ c.if-limit_out.false)
    c.if-output-t.false (fills_full f told))
    (sym (length-first _ _ _ (fills_full f told)))
    (c.copy.ensures ∙ ap (λ (vs : Bytes). over vs c.args.output.now) (fills_front f told))
