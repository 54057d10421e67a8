-- `signer::signing::Signing::play` meets its contract.
use mathlib.Core.Path.{◌∙◌, ap}
use native.Mathlib.Omega.{arith}
use Rattle.bits.specs.Bits.{Bits}
use Rattle.bits.specs.Bytes.{bits_of}
use Rattle.lowmc.specs.Cipher.{cipher}
use Rattle.lowmc.specs.Encrypted.{plaintext}
use Rattle.round.specs.Inputs.{input_share}
use Rattle.round.specs.Engine.{share_in}
use Rattle.round.proofs.InputsLaws.{shares_xor}
use Rattle.room.proofs.RoomLaws.{sizes, rest_as}
use Rattle.signer.proofs.PlayLaws.{traced_as, played_as}
use Rattle.signer.proofs.signing.Signing.play.Goals as goal

pub simulate-v-requires : goal.simulate-v-requires
simulate-v-requires c =
    let a = c.args in
    let s = a.self.now in
    traced_as (cipher s.tables) _ _ _ _ s.states.now
    (shares_xor s.tables.set.n _ a.t0.now a.t1.now (share_in c.input_shares-x.result) c.input_shares-x.ensures ∙ c.load.ensures)
    (c.load-plain.ensures ∙ ap bits_of (rest_as s.public.now _ _ c.width-w.ensures)) s.ready.traced

pub returns : goal.returns
returns c =
    let a = c.args in
    let s = a.self.now in
    played_as (cipher s.tables) s.secret.now a.t0.now a.t1.now a.t2.now
    (omega (arith, (sizes s.tables.lent.is_set).bits, s.ready.secret-wide))
    c.input_shares-x.result
    (λ j. c.input_shares-x.ensures j ∙ ap (λ (k : Bits). input_share s.tables.set.n k a.t0.now a.t1.now j) c.load.ensures)
    (plaintext s.tables.set s.public.now) _ (c.load-plain.ensures ∙ ap bits_of (rest_as s.public.now _ _ c.width-w.ensures))
    c.simulate-v.result c.simulate-v.ensures
    c.in_bytes.result c.in_bytes.ensures.0 c.in_bytes.ensures.1 c.in_bytes.ensures.2
