-- `lowmc::Tables::start` meets its contract.
use mathlib.Core.Path.{◌∙◌, ap}
use Rattle.bits.specs.Bits.{Bits, ◌⊕◌}
use Rattle.bits.specs.Words.{block_bits}
use Rattle.lowmc.specs.Vectors.{at}
use Rattle.lowmc.proofs.EncryptedLaws.{start_of}
use Rattle.lowmc.proofs.tables.Tables.start.Goals as goal

pub returns : goal.returns
returns g c k l =
    let a = c.args in
    let t = a.self.now in
    start_of t.set t.keys.now t.layers.now t.constants.now (block_bits (at a.key k)) (block_bits (at a.c k)) _
    (c.xor_each.ensures k l ∙ ap (λ (y : Bits). y ⊕ block_bits (at a.c k)) (c.products.ensures k l))
