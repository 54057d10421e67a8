-- `bits::word_at` meets its contract.
use native.Mathlib.Omega.{arith}
use mathlib.Core.Path.{sym}
use Rattle.std.proofs.lemmas.List.{take_rest}
use Rattle.bits.proofs.BytesLaws.{bytes_of_last}
use Rattle.bits.proofs.WordsLaws.{no_bytes, be_holds}
use Rattle.bits.proofs.word_at.Goals as goal

pub returns-then-s-at : goal.returns-then-s-at
returns-then-s-at c = no_bytes c.args.s.now c.args.at (omega arith)

pub returns-then-s-at-lt8 : goal.returns-then-s-at-lt8
returns-then-s-at-lt8 c =
    let e = bytes_of_last c.args.s.now c.args.at 8 (λ k. (c.type_inv.s k).fits) (omega arith) in
    rw (c.from_be_bytes.ensures, c.copy.ensures, take_rest, sym e) (be_holds _)
