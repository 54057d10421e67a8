-- `reader::value` meets its contract: the two bits that the reader gives, one behind the other, are the two of the value.
use mathlib.Core.Path.{◌∙◌, ap, ap₂}
use Prim.Native.Nat.{◌+◌, ◌*◌}
use Rattle.reader.specs.declared.Reader.{Reader}
use Rattle.std.specs.Prelude.{Bool, Option}
use Rattle.reader.specs.Reading.{bit_number, next_bit, digit_of}
use Rattle.reader.proofs.ValueLaws.{two-bits}
use Rattle.reader.proofs.value.Goals as goal

pub returns : goal.returns
returns c =
    let low = c.next_bit-low.ensures in
    let high = c.next_bit-high.ensures in
    c.pair.ensures
    ∙ (ap₂ (λ (x y : Option Bool). digit_of x + 2 * digit_of y) low.answered
    (high.answered ∙ ap (λ (r : Reader). next_bit r.signature.now (bit_number r.at)) low.stands)
    ∙ two-bits c.args.signature.now c.args.k)
