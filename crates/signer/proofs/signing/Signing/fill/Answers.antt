-- `signer::signing::Signing::fill` meets its contract.
use mathlib.Core.Path.{◌≡◌, sym, subst}
use Prim.Native.Nat.{ℕ, ◌+◌}
use native.Mathlib.Omega.{arith}
use Rattle.lowmc.specs.Cipher.{cipher}
use Rattle.views.specs.Input.{signer_filling}
use Rattle.room.proofs.HeldLaws.{Held, held_none, held_more, held_all}
use Rattle.signer.specs.Making.{outputs_of, commitments_of}
use Rattle.signer.proofs.PlayLaws.{length-outputs, length-commitments}
use Rattle.signer.proofs.signing.Signing.fill.Goals as goal

pub loop-t-init : goal.loop-t-init
loop-t-init c = held_none c.args.self.now.tables.lent.is_set _ _ c.args.room.now

pub loop-t-preserved : goal.loop-t-preserved
loop-t-preserved c =
    let s = c.args.self.now in
    let i = s.tables.lent.is_set in
    let C = cipher s.tables in
    subst (Held s.tables.set (c.loop-t.t + 1) (outputs_of s) (commitments_of s) c.args.room.now) (sym c.fill_round.ensures)
    (held_more i _ _ c.args.room.now c.loop-t.t c.loop-t.room c.loop-t-test.true c.requires (length-outputs C _ _ _) (length-commitments i C _ _ _ _ _)
    c.loop-t.invariant)

pub returns : goal.returns
unfolding signer_filling
returns c =
    let s = c.args.self.now in
    let e : c.loop-t.t ≡ s.tables.set.t = omega arith in
    held_all s.tables.lent.is_set (outputs_of s) (commitments_of s) c.args.room.now c.loop-t.room c.requires
    (subst (λ (n : ℕ). Held s.tables.set n (outputs_of s) (commitments_of s) c.args.room.now c.loop-t.room) e c.loop-t.invariant)
