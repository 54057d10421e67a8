-- `verifier::verifying::Verifying::agrees` meets its contract.
use native.Mathlib.Omega.{arith}
use Rattle.slices.proofs.EqualLaws.{equal-none}
use Rattle.shape.specs.Header.{values}
use Rattle.shape.proofs.ReadingLaws.{sound}
use Rattle.verifier.proofs.FillLaws.{agree_more, agree_all, value-within}
use Rattle.verifier.proofs.verifying.Verifying.agrees.Goals as goal

pub loop-k-init : goal.loop-k-init
loop-k-init c =
    let s = c.args.self.now in
    equal-none c.args.found.now (values s.tables.set s.signature.now)

pub value-requires : goal.value-requires
value-requires c =
    let s = c.args.self.now in
    value-within s.tables.set _ _ (omega (arith, c.requires)) (omega (arith, (sound s.tables.set s.signature.now s.reads).long))

pub loop-k-preserved : goal.loop-k-preserved
loop-k-preserved c =
    let s = c.args.self.now in
    agree_more s.tables.set c.args.found.now s.signature.now c.loop-k.d c.loop-k.k _ (omega (arith, c.requires)) c.requires c.value.ensures c.loop-k.invariant

pub returns : goal.returns
returns c =
    let s = c.args.self.now in
    agree_all s.tables.set c.args.found.now s.signature.now c.loop-k.d c.loop-k.k (omega (arith, c.requires)) c.requires c.loop-k.invariant
