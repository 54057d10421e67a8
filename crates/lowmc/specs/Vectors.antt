-- Cited by inner contracts alone: arrays of blocks, vectors that are multiplied by the same matrices.
use Rattle.std.specs.Prelude.{List, [], ℕ, get_or}
use Rattle.bits.specs.declared.Block.{Block}

-- what stands past an array's end
abbrev pub none : Block
none = record { words = [] }

-- block k of an array
abbrev pub at : List Block → ℕ → Block
at v k = get_or v k none
