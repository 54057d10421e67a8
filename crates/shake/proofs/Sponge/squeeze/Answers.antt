-- `shake::Sponge::squeeze` meets its contract. The invariant: the first i bytes are given.
use mathlib.Core.Path.{◌≡◌, ap, ◌∙◌}
use Prim.Native.Nat.{◌+◌, ◌-◌}
use native.Mathlib.Omega.{arith}
use lib.ListN.{length, take, drop, length-drop}
use lib.Seq.{length-take-le}
use Rattle.shake.specs.Shake.{bytes_at}
use Rattle.shake.proofs.StateLaws.{length-bytes_at, put_mid-put}
use Rattle.shake.proofs.SpongeLaws.{squeezed-none, squeezed_block, over-given-none, over-given, over-given-all}
use Rattle.shake.proofs.Sponge.squeeze.Goals as goal

pub loop-i-init : goal.loop-i-init
loop-i-init c = (c.requires, omega arith, squeezed-none _, over-given-none _ _)

pub loop-i-preserved : goal.loop-i-preserved
loop-i-preserved c =
    let l = c.loop-i in
    let g = c.args in
    let v = l.invariant in
    let n = c.min-n.result in
    let u = c.refill.new.self in
    let w = c.refill.ensures in
    let p = c.give_part.new.out in
    let r : l.i + n - l.i ≡ n = omega arith in
    let t : length (take (l.i + n - l.i) (drop l.i l.out)) ≡ n =
    length-take-le _ (drop l.i l.out) (omega (arith, length-drop l.i l.out)) ∙ r in
    let e = c.give_part.ensures ∙ ap (bytes_at u.lanes u.at) t in
    let b = squeezed_block g.self l.self u l.i n v.2 w.0 v.0.rated.some (omega arith) (omega arith) in (
      record { rated = w.2; within = omega arith },
      omega arith,
      b.0,
      put_mid-put l.out p l.i _ (omega (arith, ap length e, length-bytes_at u.lanes u.at n))
          ∙ over-given g.self g.out.now l.out l.i n p _ (omega arith) v.3 (length-bytes_at _ _ _) e b.1,
    )

pub returns : goal.returns
returns c =
    let l = c.loop-i in
    let o = c.args.out.now in
    let v = l.invariant in
    let e : l.i ≡ length o = omega arith in
    ((rw e at v.2), (rw e at v.3) ∙ over-given-all _ o, v.0)
