-- `lowmc::rows_words` meets its contract.
use mathlib.Core.Path.{◌≡◌, sym, ap, ◌∙◌, subst}
use native.Mathlib.Omega.{arith}
use native.Mathlib.Nat.{mul-le-mul_right}
use Prim.Native.Nat.{ℕ, ◌+◌, ◌*◌, ◌≤◌, ◌<◌}
use lib.ListN.{length}
use Rattle.std.proofs.lemmas.List.{get_or-replicate}
use Rattle.bits.specs.Words.{block_bits}
use Rattle.bits.proofs.NumberLaws.{value_none}
use Rattle.lowmc.specs.Inner.{Words}
use Rattle.lowmc.specs.Vectors.{at}
use Rattle.lowmc.proofs.ProductLaws.{row-digit, rows_for, value-more, value_space, value-whole}
use Rattle.lowmc.proofs.LentLaws.{length_piece}
use Rattle.lowmc.proofs.rows_words.Goals as goal

-- row j of 64 rows from row g on lies in n bytes that hold them
row-enough : (g j w n : ℕ) → j < 64 → (g + 64) * w ≤ n → (g + j + 1) * w ≤ n
row-enough g j w n l h = omega (arith, mul-le-mul_right {m = g + j + 1} {n = g + 64} w (omega arith))

pub loop-j-init : goal.loop-j-init
loop-j-init g c k l = get_or-replicate _ k 0 0 l ∙ value_none _

pub with_row-x-requires : goal.with_row-x-requires
with_row-x-requires g c =
    let a = c.args in
    let l = c.loop-j in
    let long : length c.piece.result.now ≡ a.w = ap length c.piece.ensures ∙ length_piece a.m.now (a.g + l.j) a.w (row-enough a.g l.j a.w _ (omega arith) (omega arith)) in
    (omega arith, (omega arith, (subst Words (sym long) c.requires.0, λ k h. value_space _ l.j _ (l.invariant k h) (omega arith))))

pub loop-j-preserved : goal.loop-j-preserved
loop-j-preserved g c k h =
    let a = c.args in
    let l = c.loop-j in
    let long : length c.piece.result.now ≡ a.w = ap length c.piece.ensures ∙ length_piece a.m.now (a.g + l.j) a.w (row-enough a.g l.j a.w _ (omega arith) (omega arith)) in
    c.with_row-x.ensures k h ∙ value-more _ l.j _ _ (l.invariant k h) (row-digit a.m.now _ (a.g + l.j) a.w _ long c.piece.ensures)

pub returns : goal.returns
returns g c k h =
    let a = c.args in
    let l = c.loop-j in
    rows_for a.m.now a.g a.w _ (block_bits (at a.v k)) _ (omega arith) (c.turned-t.ensures k h) (value-whole _ l.j _ (l.invariant k h) (omega arith))
