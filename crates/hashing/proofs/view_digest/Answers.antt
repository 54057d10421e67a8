-- `hashing::view_digest` meets its contract.
use mathlib.Core.Path.{◌∙◌}
use mathlib.Core.List.{◌++◌}
use Rattle.hashing.proofs.HashingLaws.{fed_more, h-given, fed_view}
use Rattle.hashing.proofs.view_digest.Goals as goal

pub returns : goal.returns
returns c =
    let a = c.args in
    let e1 = fed_more _ _ _ _ _ c.prefixed.ensures.0 c.absorb.ensures.0 in
    let e2 = fed_more _ _ _ _ _ e1 c.absorb-s.ensures.0 in
    let e3 = fed_more _ _ _ _ _ e2 c.absorb-2.ensures.0 in
    let e4 = fed_more _ _ _ _ _ e3 c.absorb-3.ensures.0 in
    c.squeeze.ensures.1
    ∙ h-given c.requires.0 _ _ _ c.pad-u.ensures.0 0 (a.d.now ++ (a.share.now ++ (a.transcript.now ++ a.output_share.now)))
    (e4 ∙ fed_view _ a.d.now a.share.now a.transcript.now a.output_share.now) c.requires.1
