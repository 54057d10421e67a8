-- `signature::zeros` meets its contract.
use Rattle.std.proofs.Common.{rules, arith, ◌+◌, ◌-◌, ◌≡◌, ap, ◌∙◌}
use borrow.Author.Tests.{tests}
use Rattle.std.proofs.lemmas.Iterator.{YieldsList-from_slice}
use Rattle.std.proofs.lemmas.Iterator.Search.{all_from_yields_List}
use Rattle.slices.specs.Slices.{part}
use Rattle.shape.specs.Fields.{is_zero}
use Rattle.signature.proofs.TestLaws.{every}
use Rattle.signature.proofs.zeros.Goals as goal

pub returns : goal.returns
returns c =
    let n : c.args.at + c.args.n - c.args.at ≡ c.args.n = omega arith in
    all_from_yields_List is_zero _ _ _ c.all.ensures.ran
    (YieldsList-from_slice (part c.args.x.now c.args.at c.args.n) (c.iter.ensures.rest ∙ ap (part c.args.x.now c.args.at) n))
    (λ x b q k. search (rules, tests))
    ∙ every is_zero (part c.args.x.now c.args.at c.args.n)
