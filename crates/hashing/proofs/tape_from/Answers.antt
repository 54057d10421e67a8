-- `hashing::tape_from` meets its contract.
use native.Mathlib.Omega.{arith}
use mathlib.Core.Path.{◌∙◌}
use lib.ListN.{length}
use Rattle.hashing.proofs.HashingLaws.{rated, fed_first, fed_more, kdf-given, fed_tape}
use Rattle.hashing.proofs.tape_from.Goals as goal

pub new-requires : goal.new-requires
new-requires c = rated c.requires.0

pub returns : goal.returns
returns c =
    let a = c.args in
    let e1 = fed_first _ _ _ _ c.new.ensures.0 c.absorb.ensures.0 in
    let e2 = fed_more _ _ _ _ _ e1 c.absorb-s.ensures.0 in
    let e3 = fed_more _ _ _ _ _ e2 c.absorb_u16.ensures.0 in
    let e4 = fed_more _ _ _ _ _ e3 c.absorb_u16-2.ensures.0 in
    let e5 = fed_more _ _ _ _ _ e4 c.absorb_u16-3.ensures.0 in
    c.squeeze.ensures.1
    ∙ kdf-given c.requires.0 _ _ _ c.pad-u.ensures.0 _
    (e5 ∙ fed_tape _ a.d.now a.salt.now a.t a.j (length a.output.now) (omega (arith, c.ranges)) (omega (arith, c.ranges)) c.requires.1)
