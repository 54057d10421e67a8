-- `hashing::seeds` meets its contract.
use native.Mathlib.Omega.{arith}
use mathlib.Core.Path.{◌≡◌, sym, ap, ◌∙◌, subst}
use Prim.Native.Nat.{ℕ, ◌≤◌}
use lib.ListN.{length}
use lib.Seq.{length-take-le}
use Rattle.std.proofs.Common.{Some, Ok}
use Rattle.slices.specs.Slices.{Bytes}
use Rattle.bits.specs.Bytes.{width}
use Rattle.sets.specs.declared.Set.{Set}
use Rattle.sets.specs.Sets.{numbered}
use Rattle.sets.specs.Lengths.{seeds_length}
use Rattle.sets.proofs.Each.{known_set, most}
use Rattle.answers.specs.Answers.{Fine, first}
use Rattle.answers.proofs.OutcomeLaws.{promise_refused, promise_given, handed_on, no_such_set}
use Rattle.hashing.specs.SeedsCall.{seeds_checks}
use Rattle.hashing.proofs.HashingLaws.{front_over}
use Rattle.hashing.proofs.SeedsCallLaws.{seeded_no_set, seeded-refused, seeded-given, seeds_fit}
use Rattle.hashing.proofs.seeds.Goals as goal

-- the output holds the seeds, by the code's length k
fits : (set : ℕ) (secret public message : Bytes) (n k : ℕ) (p : Set) → numbered set ≡ Some p
    → first (seeds_checks p (length secret) (length public) (length message) n) ≡ Fine → k ≡ seeds_length p → k ≤ n
fits set secret public message n k p e f q = subst (λ (i : ℕ). i ≤ n) (sym q) (seeds_fit (numbered set) secret public message n p e f)

pub returns-in_err-p : goal.returns-in_err-p
returns-in_err-p c =
    let e = sym c.numbered.ensures ∙ c.in_err-p.ensures.ok_part in
    promise_refused _ _ _ (seeded_no_set _ _ _ _ _ e) (no_such_set _ c.in_err-p.ensures.ok_part c.in_err-p.ensures.value c.from_residual.ensures.1)

pub check_seeds-requires : goal.check_seeds-requires
check_seeds-requires c = known_set c.args.set _ (sym c.numbered.ensures ∙ c.in_ok-p.ensures.ok_part)

pub returns-in_err-check_seeds : goal.returns-in_err-check_seeds
returns-in_err-check_seeds c =
    promise_refused _ _ _
    (seeded-refused _ _ _ _ _ _ (sym c.numbered.ensures ∙ c.in_ok-p.ensures.ok_part) _ (sym c.in_err-check_seeds.ensures))
    (handed_on _ c.from_residual-in_err-check_seeds.ensures.1)

pub seeds_length-n-requires : goal.seeds_length-n-requires
seeds_length-n-requires c = known_set c.args.set _ (sym c.numbered.ensures ∙ c.in_ok-p.ensures.ok_part)

pub slice_bounds-derive-end : goal.slice_bounds-derive-end
slice_bounds-derive-end c =
    let a = c.args in
    fits a.set a.secret.now a.public.now a.message.now _ _ _ (sym c.numbered.ensures ∙ c.in_ok-p.ensures.ok_part)
    (sym c.in_ok-check_seeds.ensures) c.seeds_length-n.ensures

pub slice_bounds-derive-end-2 : goal.slice_bounds-derive-end-2
slice_bounds-derive-end-2 c = let a = c.args in
    sym (length-take-le _ _ (fits a.set a.secret.now a.public.now a.message.now _ _ _ (sym c.numbered.ensures ∙ c.in_ok-p.ensures.ok_part)
    (sym c.in_ok-check_seeds.ensures) c.seeds_length-n.ensures))

pub derive-requires : goal.derive-requires
derive-requires c = let a = c.args in
    let e = sym c.numbered.ensures ∙ c.in_ok-p.ensures.ok_part in (
      known_set a.set _ e,
      length-take-le _ _ (fits a.set a.secret.now a.public.now a.message.now _ _ _ e
          (sym c.in_ok-check_seeds.ensures) c.seeds_length-n.ensures) ∙ c.seeds_length-n.ensures,
    )

pub overflow_cast-result : goal.overflow_cast-result
unfolding width
overflow_cast-result c =
    omega (arith, c.seeds_length-n.ensures, most seeds_length 42080 tt tt tt (known_set c.args.set _ (sym c.numbered.ensures ∙ c.in_ok-p.ensures.ok_part)))

pub returns : goal.returns
returns c =
    let a = c.args in
    let e = sym c.numbered.ensures ∙ c.in_ok-p.ensures.ok_part in
    let f = sym c.in_ok-check_seeds.ensures in
    let k : length c.derive.new.output ≡ c.seeds_length-n.result = c.derive.auto.output ∙ length-take-le _ _ (fits a.set a.secret.now a.public.now a.message.now _ _ _ e f c.seeds_length-n.ensures) in
    let d = c.derive.ensures in
    promise_given _ _ _ _ _ (seeded-given _ _ _ _ _ _ e f) (sym k ∙ ap length d) (front_over _ _ _ _ d k)
