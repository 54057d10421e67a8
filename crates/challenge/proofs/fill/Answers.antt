-- `challenge::fill` meets its contract.
use native.Mathlib.Omega.{arith}
use mathlib.Core.Path.{◌≡◌, sym, ap, ◌∙◌}
use Prim.Native.Nat.{◌*◌, ◌≤◌, ◌<◌}
use native.Mathlib.Numerals.{add-one}
use lib.ListN.{length, take}
use lib.Seq.{length-take-le}
use Rattle.slices.specs.Slices.{Bytes}
use Rattle.sets.specs.declared.Set.{Set}
use Rattle.sets.specs.Sets.{IsSet}
use Rattle.sets.proofs.Each.{each, most}
use Rattle.hashing.specs.Hashing.{h}
use Rattle.hashing.proofs.HashingLaws.{digest_fits}
use Rattle.challenge.specs.Blocks.{chain, stream_values}
use Rattle.challenge.proofs.BlocksLaws.{chain_first, chain_next, in_none, in_block}
use Rattle.challenge.proofs.FillingLaws.{Ended, filling-none, filling-room, filling-start, filling_skip, filling_store, ended_all, ended_at, ended_short, ended_full}
use borrow.Author.Rules.{rules}
use Rattle.challenge.proofs.fill.Goals as goal
use Rattle.challenge.proofs.fill.Goals.{then-v-lt-PAIR_11+else-got-t, else-v-lt-PAIR_11, else-reading-test, then-reading-test+then-loop-j-test+then-v-lt-PAIR_11+then-got-t}

-- a digest fits the array that holds a block
fits : (p : Set) (b : Bytes) → length b ≡ 64 → IsSet p → p.digest ≤ length b
fits p b e i = omega (arith, e, digest_fits i)

pub overflow_mul-pairs : goal.overflow_mul-pairs
overflow_mul-pairs c = omega (arith, digest_fits c.requires.0)

pub reading-init : goal.reading-init
reading-init c =
    (omega arith, search rules, chain_first _ _, rw (in_none c.args.p) (filling-none (each (λ (p : Set). 0 < p.t) (omega arith) (omega arith) (omega arith) c.requires.0) c.requires.1))

pub loop-j-init : goal.loop-j-init
loop-j-init c = (omega arith, λ xs before f. filling-start f _)

pub slice_bounds-pair-end : goal.slice_bounds-pair-end
slice_bounds-pair-end c = sym c.reading.invariant.1

pub pair-v-requires : goal.pair-v-requires
pair-v-requires c = omega (arith, c.loop-j-test.true, fits c.args.p c.reading.b c.reading.invariant.1 c.requires.0)

pub bounds-out-got : goal.bounds-out-got
bounds-out-got c = filling-room (c.loop-j.invariant.1 _ _ c.reading.invariant.3)

pub overflow_add-got : goal.overflow_add-got
overflow_add-got c = omega (arith, (c.loop-j.invariant.1 _ _ c.reading.invariant.3).below, most (λ (p : Set). p.t) 438 tt tt tt c.requires.0)

pub overflow_step-j : goal.overflow_step-j
overflow_step-j c = omega (arith, c.loop-j-test.true, digest_fits c.requires.0)

pub loop-j-preserved : goal.loop-j-preserved
loop-j-preserved c = (
  omega arith,
  λ xs before f.
      let g = c.loop-j.invariant.1 xs before f in
      elim c.if-v-lt-PAIR_11.branch [
        | then-v-lt-PAIR_11+else-got-t w ↦ filling_store xs _ _ _ c.pair-v.ensures g w.if-v-lt-PAIR_11.true w.got-is w.out-is w.if-got-t.false
        | else-v-lt-PAIR_11 w ↦ filling_skip xs _ _ _ c.pair-v.ensures g w.if-v-lt-PAIR_11.false w.got-is w.out-is
      ],
)

pub slice_bounds-b-end : goal.slice_bounds-b-end
slice_bounds-b-end c = fits c.args.p c.reading.b c.reading.invariant.1 c.requires.0

pub slice_bounds-block-end : goal.slice_bounds-block-end
slice_bounds-block-end c = sym (length-take-le _ _ (fits c.args.p c.reading.b c.reading.invariant.1 c.requires.0))

pub block-b-requires : goal.block-b-requires
block-b-requires c = c.requires.0

pub reading-preserved : goal.reading-preserved
reading-preserved c =
    let p = c.args.p in
    let b₀ = take p.digest c.args.first in
    let i = c.reading.invariant in
    let k = c.reading.k in
    let e : c.loop-j.j ≡ 4 * p.digest = omega (arith, c.loop-j-test.false, c.loop-j.invariant.0) in (
      omega arith,
      search rules,
      c.block-b.ensures ∙ (ap (h p 1) i.2 ∙ (chain_next p b₀ k ∙ ap (chain p b₀) (sym (add-one k)))),
      rw (add-one, ← (in_block p b₀ _ k i.2 (fits c.args.p c.reading.b c.reading.invariant.1 c.requires.0) _ e)) (c.loop-j.invariant.1 _ _ c.reading.invariant.3),
    )

pub returns-then-got-t-2 : goal.returns-then-got-t-2
returns-then-got-t-2 c =
    let p = c.args.p in
    let k = c.reading in
    let e : Ended p.t (stream_values p (take p.digest c.args.first) c.args.limit) c.reading-test.got c.args.out.now c.reading-test.out =
    elim c.reading-test.branch [
      | else-reading-test w ↦ ended_all _ _ _ _ (omega (arith, w.reading-test.false, k.invariant.0)) k.invariant.3 w.got-is w.out-is
      | then-reading-test+then-loop-j-test+then-v-lt-PAIR_11+then-got-t w ↦
          ended_at _ _ k.b _ k.invariant.2 (fits p k.b k.invariant.1 c.requires.0) w.loop-j.j _ _ w.pair-v.ensures
          w.loop-j-test.true w.reading-test.true (w.loop-j.invariant.1 _ _ k.invariant.3) w.if-v-lt-PAIR_11.true w.got-is w.out-is w.if-got-t.true
    ] in
    ended_short _ _ _ e c.if-got-t-2.true

pub returns-else-got-t-2 : goal.returns-else-got-t-2
returns-else-got-t-2 c =
    let p = c.args.p in
    let k = c.reading in
    let e : Ended p.t (stream_values p (take p.digest c.args.first) c.args.limit) c.reading-test.got c.args.out.now c.reading-test.out =
    elim c.reading-test.branch [
      | else-reading-test w ↦ ended_all _ _ _ _ (omega (arith, w.reading-test.false, k.invariant.0)) k.invariant.3 w.got-is w.out-is
      | then-reading-test+then-loop-j-test+then-v-lt-PAIR_11+then-got-t w ↦
          ended_at _ _ k.b _ k.invariant.2 (fits p k.b k.invariant.1 c.requires.0) w.loop-j.j _ _ w.pair-v.ensures
          w.loop-j-test.true w.reading-test.true (w.loop-j.invariant.1 _ _ k.invariant.3) w.if-v-lt-PAIR_11.true w.got-is w.out-is w.if-got-t.true
    ] in
    ended_full _ _ _ e c.if-got-t-2.false
