-- `hashing::tape` meets its contract.
use mathlib.Core.Path.{sym, ◌∙◌, ap}
use lib.ListN.{length}
use lib.Seq.{length-take-le}
use Rattle.slices.specs.Slices.{Bytes}
use Rattle.hashing.specs.Hashing.{kdf, tape_input, tape}
use Rattle.hashing.proofs.HashingLaws.{digest_fits, front_long, front_length, front_is}
use Rattle.hashing.proofs.tape.Goals as goal

pub slice_bounds-d-end : goal.slice_bounds-d-end
slice_bounds-d-end c = digest_fits c.requires.0

pub slice_bounds-digest-end : goal.slice_bounds-digest-end
slice_bounds-digest-end c = sym (length-take-le _ _ (digest_fits c.requires.0))

pub digest-requires : goal.digest-requires
digest-requires c = (c.requires.0, length-take-le _ _ (digest_fits c.requires.0))

pub slice_bounds-d-end-2 : goal.slice_bounds-d-end-2
slice_bounds-d-end-2 c = front_long _ c.digest.new.output _ (digest_fits c.requires.0) c.digest.auto.output

pub slice_bounds-tape_from-end : goal.slice_bounds-tape_from-end
slice_bounds-tape_from-end c = front_length _ c.digest.new.output _ (digest_fits c.requires.0) c.digest.auto.output

pub returns : goal.returns
unfolding tape
returns c =
    let a = c.args in
    c.tape_from.ensures
    ∙ ap (λ (d : Bytes). kdf a.p (tape_input d a.salt.now a.t a.j (length a.output.now)) (length a.output.now))
    (front_is _ _ _ (digest_fits c.requires.0) c.digest.auto.output ∙ c.digest.ensures)
