-- `shake::state::give_bytes` meets its contract. The invariant: q bytes are stored.
use mathlib.Core.Path.{◌≡◌, ◌∙◌}
use native.Mathlib.Omega.{arith}
use lib.ListN.{length}
use Rattle.slices.proofs.SliceLaws.{put_one}
use Rattle.shake.proofs.StateLaws.{bytes_at-one, over-bytes_at-none, over-bytes_at, over-bytes_at-all}
use Rattle.shake.proofs.state.give_bytes.Goals as goal

pub loop-q-init : goal.loop-q-init
loop-q-init c = over-bytes_at-none _ _ _

pub loop-q-preserved : goal.loop-q-preserved
loop-q-preserved c =
    let l = c.loop-q in
    let g = c.args in
    put_one l.out l.q _ (omega arith)
    ∙ over-bytes_at g.out.now l.out g.a.now g.j l.q 1 _ (omega arith) l.invariant (bytes_at-one _ _ _ c.byte_of.ensures)

pub returns : goal.returns
returns c =
    let l = c.loop-q in
    let o = c.args.out.now in
    let e : l.q ≡ length o = omega arith in
    over-bytes_at-all o l.out c.args.a.now c.args.j (length o) (omega arith) (rw e at l.invariant)
