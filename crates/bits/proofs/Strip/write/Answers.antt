-- `bits::Strip::write` meets its contract.
use native.Mathlib.Omega.{arith}
use mathlib.Core.Path.{◌≡◌, ◌∙◌, ap}
use mathlib.Core.List.{List}
use Prim.Native.Nat.{ℕ, ◌+◌, ◌*◌, ◌<◌}
use lib.ListN.{length, set}
use Rattle.slices.specs.Slices.{put}
use Rattle.bits.specs.Bits.{from}
use Rattle.bits.specs.Bytes.{bytes, value}
use Rattle.bits.specs.Rows.{flat, rows_of}
use Rattle.bits.proofs.BytesLaws.{put_no_bytes, put_next}
use Rattle.bits.proofs.RowsLaws.{row_below, rows_all}
use Rattle.bits.proofs.Strip.write.Goals as goal
use Rattle.bits.proofs.Strip.write.Goals.{then-d-m, else-d-m}

pub loop-b-init : goal.loop-b-init
loop-b-init c = (omega arith, omega arith, put_no_bytes c.args.s.now 0 _)

pub byte-requires : goal.byte-requires
byte-requires c =
    let a = c.args in
    let l = c.loop-b in
    let h = row_below a.m a.n l.i l.d l.b-index l.invariant.1 (omega (arith, c.requires.3)) in
    (omega arith, omega arith, omega (arith, h), l.invariant.0, c.requires.4.narrow)

pub loop-b-preserved : goal.loop-b-preserved
loop-b-preserved c =
    let m = c.args.m in
    let l = c.loop-b in
    let n = c.if-d-m in
    let place : (n.d < m) × (n.i * m + n.d ≡ 8 * (l.b-index + 1)) = elim n.branch [
      | then-d-m w ↦ (omega arith, omega (arith, l.invariant.1, ap (λ (i : ℕ). i * m) w.i-is))
      | else-d-m w ↦ (omega arith, omega (arith, l.invariant.1, ap (λ (i : ℕ). i * m) w.i-is))
    ] in
    let v : c.byte.result ≡ value 8 (from (8 * l.b-index) (flat m (rows_of c.args.self.words))) = c.byte.ensures ∙ ap (λ (at : ℕ). value 8 (from at (flat m (rows_of c.args.self.words)))) l.invariant.1 in (
      place.0,
      place.1,
      ap (λ (y : List ℕ). set y l.b-index c.byte.result) l.invariant.2 ∙ put_next c.args.s.now l.b-index c.byte.result _ (omega arith) v,
    )

pub returns : goal.returns
returns c =
    let a = c.args in
    let l = c.loop-b in
    let e : l.b-index ≡ length a.s.now = omega arith in
    l.invariant.2 ∙ ap (λ (k : ℕ). put a.s.now 0 (bytes k (flat a.m (rows_of a.self.words)))) e
    ∙ rows_all a.s.now a.m a.n a.self.words (omega arith) c.requires.3 c.requires.4
