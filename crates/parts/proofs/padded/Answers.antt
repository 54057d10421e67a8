-- `parts::padded` meets its contract.
use Rattle.std.proofs.Common.{arith, rules, ◌≡◌, ◌+◌, ◌-◌, ◌/◌}
use Rattle.bits.specs.Bytes.{width}
use Rattle.parts.proofs.PaddedLaws.{padded_byte, unit}
use Rattle.parts.proofs.padded.Goals as goal

pub bounds-s-last : goal.bounds-s-last
unfolding width
bounds-s-last c = search rules

pub returns : goal.returns
returns c =
    let n : c.div_ceil-n.result ≡ (c.args.m + 7) / 8 = omega (arith, c.div_ceil-n.ensures) in
    rw (unit c.args.m _ n)
    (padded_byte c.args.s.now c.args.at c.args.m _ n c.requires.0 (c.type_inv.s (c.args.at + (c.div_ceil-n.result - 1))).fits)
