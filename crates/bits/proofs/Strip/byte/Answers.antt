-- `bits::Strip::byte` meets its contract.
use native.Mathlib.Omega.{arith}
use mathlib.Core.Path.{◌∙◌, ap}
use mathlib.Core.List.{List}
use Prim.Native.Nat.{ℕ}
use lib.ListN.{get_or}
use Rattle.bits.proofs.RowsLaws.{gathered_byte}
use Rattle.bits.proofs.Strip.byte.Goals as goal

pub returns : goal.returns
returns c =
    let a = c.args in
    ap (λ (b : List ℕ). get_or b 0 0) c.to_be_bytes.ensures
    ∙ gathered_byte a.m a.self.now.words a.i a.d (omega arith) (omega arith) (omega arith) (omega arith) c.requires.4
