-- `hashing::commit` meets its contract.
use mathlib.Core.Path.{sym, ◌∙◌, ap}
use mathlib.Core.List.{◌++◌}
use lib.Seq.{length-take-le}
use Rattle.slices.specs.Slices.{Bytes}
use Rattle.hashing.specs.Hashing.{h, view, commitment}
use Rattle.hashing.proofs.HashingLaws.{digest_fits, front_long, front_length, front_is}
use Rattle.hashing.proofs.commit.Goals as goal

pub slice_bounds-d-end : goal.slice_bounds-d-end
slice_bounds-d-end c = digest_fits c.requires.0

pub slice_bounds-digest-end : goal.slice_bounds-digest-end
slice_bounds-digest-end c = sym (length-take-le _ _ (digest_fits c.requires.0))

pub digest-requires : goal.digest-requires
digest-requires c = (c.requires.0, length-take-le _ _ (digest_fits c.requires.0))

pub slice_bounds-d-end-2 : goal.slice_bounds-d-end-2
slice_bounds-d-end-2 c = front_long _ c.digest.new.output _ (digest_fits c.requires.0) c.digest.auto.output

pub slice_bounds-view_digest-end : goal.slice_bounds-view_digest-end
slice_bounds-view_digest-end c = front_length _ c.digest.new.output _ (digest_fits c.requires.0) c.digest.auto.output

pub returns : goal.returns
unfolding commitment view
returns c =
    let a = c.args in
    c.view_digest.ensures
    ∙ ap (λ (d : Bytes). h a.p 0 (d ++ (a.share.now ++ (a.transcript.now ++ a.output_share.now)))) (front_is _ _ _ (digest_fits c.requires.0) c.digest.auto.output ∙ c.digest.ensures)
