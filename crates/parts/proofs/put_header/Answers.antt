-- `parts::put_header` meets its contract.
use Rattle.std.proofs.Common.{arith, ◌*◌, ap, ◌∙◌}
use lib.ListN.{length-take}
use Rattle.slices.specs.Slices.{Bytes, over}
use Rattle.bits.specs.Bits.{from}
use Rattle.bits.specs.Bytes.{value}
use Rattle.shape.specs.Header.{pair_bits}
use Rattle.shape.proofs.SetFacts.{header_length≤}
use Rattle.parts.proofs.FillLaws.{front_filled}
use Rattle.parts.proofs.PutLaws.{header_by_bytes}
use Rattle.parts.proofs.put_header.Goals as goal

pub header_byte-requires : goal.header_byte-requires
header_byte-requires c =
    (omega (arith, header_length≤ c.requires.0, length-take c.header-n.result c.args.output.now), c.requires.1.1.0)

pub returns : goal.returns
returns c =
    let vs : Bytes = c.args.values.now in
    let out : Bytes = c.args.output.now in
    front_filled (λ q. value 8 (from (8 * q) (pair_bits vs))) _ _ _ out (omega arith) (omega arith) c.loop-i-test.false c.loop-i.invariant
    ∙ ap (λ (h : Bytes). over h out) (rw c.header-n.ensures (header_by_bytes c.args.p vs c.requires.1.0))
