-- `lowmc::products` meets its contract.
use native.Mathlib.Omega.{arith}
use Rattle.bits.specs.Words.{block_bits}
use Rattle.lowmc.specs.Vectors.{at}
use Rattle.lowmc.proofs.LentLaws.{rows_in, product_of}
use Rattle.lowmc.proofs.products.Goals as goal

pub products_rows-requires : goal.products_rows-requires
products_rows-requires g c =
    let a = c.args in
    (omega arith, rows_in c.requires.0 c.width-w.result c.width-w.ensures a.k a.table.now c.requires.1 _ c.piece.ensures)

pub returns : goal.returns
returns g c j l =
    let a = c.args in
    product_of c.requires.0 c.width-w.result c.width-w.ensures a.k a.table.now c.requires.1 _ c.piece.ensures (block_bits (at a.v j)) _
    (c.products_rows.ensures j l)
