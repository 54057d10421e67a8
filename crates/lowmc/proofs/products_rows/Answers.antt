-- `lowmc::products_rows` meets its contract.
use native.Mathlib.Omega.{arith}
use Prim.Native.Nat.{◌*◌}
use Rattle.bits.specs.Words.{block_bits}
use Rattle.bits.proofs.WordsLaws.{four_words}
use Rattle.circuit.specs.Matrices.{product}
use Rattle.circuit.proofs.MatricesLaws.{product_past}
use Rattle.lowmc.specs.Lent.{row}
use Rattle.lowmc.specs.Vectors.{at}
use Rattle.lowmc.proofs.VectorsLaws.{set_more}
use Rattle.lowmc.proofs.products_rows.Goals as goal

pub loop-k-preserved : goal.loop-k-preserved
loop-k-preserved g c =
    let a = c.args in
    let k = c.loop-k.k in
    let l = c.loop-k-test.true in
    let n = 8 * a.w in
    let M = row a.w a.m.now in
    let x = block_bits (at a.v k) in
    set_more _ _ _ _ _ c.loop-k.invariant l
    (λ e. four_words (product n M x) _ _ _ _ (c.product_words-a.ensures k l) (c.product_words-b.ensures k l) (c.product_words-c.ensures k l)
    (c.product_words-d.ensures k l) (λ i h. product_past n M x i (omega arith)))
