-- `hashing::hash` meets its contract.
use native.Mathlib.Omega.{arith}
use mathlib.Core.Path.{◌≡◌, refl, sym, ap, ◌∙◌}
use Prim.Native.Nat.{ℕ}
use lib.ListN.{length}
use Rattle.slices.proofs.SliceLaws.{over-whole}
use Rattle.sets.proofs.Each.{known_set}
use Rattle.answers.specs.declared.Refusal.TheVariants.{Room}
use Rattle.answers.proofs.OutcomeLaws.{promise_refused, promise_given, no_such_set}
use Rattle.hashing.proofs.HashCallLaws.{hashed_no_set, hashed_too_long, hashed-given}
use Rattle.hashing.proofs.hash.Goals as goal

pub returns-in_err-p : goal.returns-in_err-p
returns-in_err-p c =
    promise_refused _ _ _ (hashed_no_set _ _ _ (sym c.numbered.ensures ∙ c.in_err-p.ensures.ok_part))
    (no_such_set _ c.in_err-p.ensures.ok_part c.in_err-p.ensures.value c.from_residual.ensures.1)

pub returns-then-n-gt-HASH_MOST : goal.returns-then-n-gt-HASH_MOST
returns-then-n-gt-HASH_MOST c =
    promise_refused _ Room _ (hashed_too_long _ _ _ _ (sym c.numbered.ensures ∙ c.in_ok-p.ensures.ok_part) c.if-n-gt-HASH_MOST.true) refl

pub fill-requires : goal.fill-requires
fill-requires c = known_set c.args.set _ (sym c.numbered.ensures ∙ c.in_ok-p.ensures.ok_part)

pub returns : goal.returns
returns c =
    let n : ℕ = length c.args.output.now in
    let l : length c.fill.new.output ≡ n = c.fill.auto.output in
    let e : n ≡ _ = sym l ∙ ap length c.fill.ensures in
    promise_given _ _ _ _ _ (hashed-given _ _ _ _ (sym c.numbered.ensures ∙ c.in_ok-p.ensures.ok_part) (omega arith))
    e (c.fill.ensures ∙ sym (over-whole _ _ (sym e)))
