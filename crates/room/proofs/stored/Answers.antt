-- `room::stored` meets its contract.
use mathlib.Core.Path.{ap, ◌∙◌}
use Prim.Native.Nat.{ℕ, ◌≤◌}
use lib.Seq.{length-take-le}
use Rattle.bits.specs.Words.{block_bits}
use Rattle.bits.specs.Bytes.{bytes}
use Rattle.room.proofs.Fits.{width-most}
use Rattle.room.proofs.RoomLaws.{stored_bits, front_of}
use Rattle.room.proofs.stored.Goals as goal

pub returns : goal.returns
returns c =
    let w = c.width-w in
    let b : w.result ≤ 32 = width-most _ c.requires w.ensures in
    let x = block_bits c.args.x in
    front_of _ _ _ _ w.result w.ensures b c.store.auto.s
    (c.store.ensures ∙ (ap (λ (k : ℕ). bytes k x) (length-take-le _ _ b ∙ w.ensures) ∙ stored_bits c.requires x))
