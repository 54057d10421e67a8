-- `signature::slot_wrong` meets its contract.
use Rattle.std.proofs.Common.{rules, arith, refl, ◌≡◌, ◌+◌, ◌*◌, ◌≤◌, ◌<◌, true, false, length}
use borrow.Author.Tests.{tests}
use Rattle.sets.specs.Lengths.{round_most}
use Rattle.sets.specs.Sets.{IsSet}
use Rattle.shape.proofs.SetFacts.{unpacked≤}
use Rattle.std.proofs.lemmas.Iterator.{cases_from_any, YieldsList-from_range, serves_from_Range}
use Rattle.signature.proofs.TestLaws.{clean_at, slot_inside, slots_tested}
use Rattle.signature.proofs.slot_wrong.Goals as goal

pub any-requires-clause-callable : goal.any-requires-clause-callable
any-requires-clause-callable c =
    serves_from_Range (λ k b q. search rules)
    (λ k a b.
    let i : c.args.p.t + 32 + k * c.round_most-most.result + round_most c.args.p ≤ length c.args.x.now =
    slot_inside c.args.p c.args.x.now c.requires.1 _ c.round_most-most.ensures k b in
    let u : length c.args.x.now ≤ 133184 = omega (arith, unpacked≤ c.requires.0) in
    let s : IsSet c.args.p = c.requires.0 in
    let n : k < length c.args.x.now = omega arith in
    search rules)

pub returns : goal.returns
returns c =
    slots_tested c.args.p c.args.x.now c.requires.1 _ c.round_most-most.ensures _
    (cases_from_any _ _ _ (λ k. clean_at c.args.p c.args.x.now c.round_most-most.result k ≡ false)
    (λ k. clean_at c.args.p c.args.x.now c.round_most-most.result k ≡ true) c.any.ensures.ran
    (YieldsList-from_range 0 c.args.p.t c.args.p.t refl (omega arith))
    (λ k q h. search (rules, tests)) (λ k q h. search (rules, tests)))
