-- `lowmc::row_ones` meets its contract.
use native.Mathlib.Omega.{arith}
use Prim.Native.Nat.{◌*◌}
use lib.ListN.{length}
use Rattle.bits.specs.Bits.{Bits}
use Rattle.bits.specs.Bytes.{bits_of}
use Rattle.bits.specs.Inner.{low_bits}
use Rattle.lowmc.proofs.ProductLaws.{two-words, three-words, four_words, of_width}
use Rattle.lowmc.proofs.row_ones.Goals as goal

pub returns-in-16 : goal.returns-in-16
returns-in-16 c =
    let a = c.args in
    let f : Bits = bits_of a.row.now in
    let g : Bits = low_bits a.v in
    of_width f g 128 (8 * length a.row.now) _ (omega arith) (two-words f g _ _ c.ones.ensures.1 c.ones-in-16.ensures.1)

pub returns-in-24 : goal.returns-in-24
returns-in-24 c =
    let a = c.args in
    let f : Bits = bits_of a.row.now in
    let g : Bits = low_bits a.v in
    let two = two-words f g _ _ c.ones-in-24.ensures.1 c.ones-in-24-2.ensures.1 in
    of_width f g 192 (8 * length a.row.now) _ (omega arith) (three-words f g _ _ two c.ones-in-24-3.ensures.1)

pub returns-in_default : goal.returns-in_default
returns-in_default c =
    let a = c.args in
    let f : Bits = bits_of a.row.now in
    let g : Bits = low_bits a.v in
    let two = two-words f g _ _ c.ones-in_default.ensures.1 c.ones-in_default-2.ensures.1 in
    let three = three-words f g _ _ two c.ones-in_default-3.ensures.1 in
    of_width f g 256 (8 * length a.row.now) _ (omega arith) (four_words f g _ _ three c.ones-in_default-4.ensures.1)
