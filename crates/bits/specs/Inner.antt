-- Cited by inner contracts alone: words whose first byte is the lowest, as a matrix's rows are loaded.
use Rattle.std.specs.Prelude.{◌+◌, ◌-◌, ◌*◌, ◌/◌, ◌%◌, get_or}
use Rattle.bits.specs.Bits.{Bits}
use Rattle.bits.specs.Words.{word_bits}
use Rattle.bits.specs.declared.Block.{Block}

-- 64 bits with their eight bytes in the other order
unfoldable pub bytes_reversed : Bits → Bits
bytes_reversed f i = f (8 * (7 - i / 8) + i % 8)

-- the bits of a block whose words have their bytes in the other order
unfoldable pub low_bits : Block → Bits
low_bits b i = bytes_reversed (word_bits (get_or b.words (i / 64) 0)) (i % 64)
