-- `shake::state::give_words` meets its contract. The invariant: q lanes are stored.
use mathlib.Core.Path.{◌≡◌, sym, ap, ◌∙◌}
use Prim.Native.Nat.{ℕ, ◌+◌, ◌-◌, ◌*◌}
use native.Mathlib.Omega.{arith}
use lib.ListN.{length}
use Rattle.slices.specs.Slices.{over}
use Rattle.shake.specs.Shake.{bytes_at}
use Rattle.shake.proofs.OctetsLaws.{octets-le}
use Rattle.shake.proofs.StateLaws.{length-bytes_at, bytes_at-word, over-bytes_at-none, over-bytes_at, over-bytes_at-all, put_mid-put}
use Rattle.shake.proofs.state.give_words.Goals as goal

pub loop-q-init : goal.loop-q-init
loop-q-init c = over-bytes_at-none _ _ _

pub loop-q-preserved : goal.loop-q-preserved
loop-q-preserved c =
    let l = c.loop-q in
    let g = c.args in
    let i = 8 * l.q in
    let k : 8 * (g.k + l.q) ≡ 8 * g.k + i = omega arith in
    let n : i + 8 ≡ 8 * (l.q + 1) = omega arith in
    let p = c.copy_from_slice.new.self in
    let e = c.copy_from_slice.ensures.after ∙ c.to_le_bytes.ensures ∙ sym (octets-le _) ∙ bytes_at-word g.a.now (g.k + l.q) ∙ ap (λ (x : ℕ). bytes_at g.a.now x 8) k in
    let h : length p ≡ i + 8 - i = omega (arith, ap length e, length-bytes_at g.a.now (8 * g.k + i) 8) in
    put_mid-put l.out p i _ h
    ∙ over-bytes_at g.out.now l.out g.a.now (8 * g.k) i 8 p (omega arith) l.invariant e
    ∙ ap (λ (x : ℕ). over (bytes_at g.a.now (8 * g.k) x) g.out.now) n

pub returns : goal.returns
returns c =
    let l = c.loop-q in
    let o = c.args.out.now in
    let e : 8 * l.q ≡ length o = omega arith in
    over-bytes_at-all o l.out c.args.a.now (8 * c.args.k) (length o) (omega arith) (rw e at l.invariant)
