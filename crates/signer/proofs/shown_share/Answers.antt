-- `signer::shown_share` meets its contract.
use Rattle.signer.proofs.WriteLaws.{no_share}
use Rattle.signer.proofs.shown_share.Goals as goal

pub returns-then-e-eq0 : goal.returns-then-e-eq0
returns-then-e-eq0 c = no_share c.requires _ c.if-e-eq0.true _
