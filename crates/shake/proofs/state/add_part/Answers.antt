-- `shake::state::add_part` meets its contract. The invariants: the bytes of the first q words are added; then q bytes behind the words.
use mathlib.Core.Path.{◌≡◌, ap, ap₂, ◌∙◌}
use mathlib.Core.List.{List, []}
use Prim.Native.Nat.{ℕ, ◌+◌, ◌*◌, ◌/◌}
use native.Mathlib.Omega.{arith}
use lib.ListN.{length, get_or, take}
use Rattle.std.specs.Int.{w64, from_le_bytes}
use Rattle.std.proofs.lemmas.List.{get_or-drop}
use Rattle.slices.specs.Slices.{Bytes}
use Rattle.shake.specs.Shake.{byte_added, added}
use Rattle.shake.proofs.OctetsLaws.{octets_word}
use Rattle.shake.proofs.StateLaws.{added_none, added-word, added-byte}
use Rattle.shake.proofs.state.add_part.Goals as goal

pub loop-q-init : goal.loop-q-init
loop-q-init c = added_none _ _

pub loop-q-preserved : goal.loop-q-preserved
loop-q-preserved c =
    let l = c.loop-q in
    let s = c.args.s.now in
    let e : c.from_le_bytes.result ≡ from_le_bytes w64 (get_or c.as_chunks.result.0.now l.q []) = c.from_le_bytes.ensures in
    let p = ap (λ (x : List Bytes). from_le_bytes w64 (get_or x l.q [])) c.as_chunks.ensures.front in
    added-word c.args.a.now l.a _ c.args.j s l.q _ (omega arith) l.invariant (octets_word s l.q _ (omega arith) (λ k. (c.type_inv.s k).fits) (e ∙ p)) c.add_word.ensures

pub loop-q-2-preserved : goal.loop-q-2-preserved
loop-q-2-preserved c =
    let l = c.loop-q-2 in
    let g = c.args in
    let s = g.s.now in
    let w = c.as_chunks.ensures in
    let m = 8 * (length s / 8) + l.q in
    let i : g.j + 8 * length c.as_chunks.result.0.now + l.q ≡ g.j + m = omega arith in
    let k : length s / 8 * 8 + l.q ≡ m = omega arith in
    let n : m + 1 ≡ 8 * (length s / 8) + (l.q + 1) = omega arith in
    let v = ap (λ (x : Bytes). get_or x l.q 0) w.back ∙ get_or-drop _ s l.q 0 ∙ ap (λ (x : ℕ). get_or s x 0) k in
    added-byte g.a.now l.a _ g.j s m (omega arith) l.invariant (c.add_byte.ensures ∙ ap₂ (byte_added l.a) i v) ∙ ap (λ (x : ℕ). added g.a.now g.j (take x s)) n
