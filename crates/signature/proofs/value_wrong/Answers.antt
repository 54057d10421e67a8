-- `signature::value_wrong` meets its contract.
use Rattle.std.proofs.Common.{rules, ◌∙◌, not}
use borrow.Author.Tests.{tests}
use Rattle.std.proofs.lemmas.Iterator.{YieldsList-from_slice}
use Rattle.std.proofs.lemmas.Iterator.Search.{any_from_yields_List}
use Rattle.shape.specs.Header.{is_value}
use Rattle.shape.specs.Form.{values_in}
use Rattle.shape.specs.Reading.{value_wrong}
use Rattle.signature.proofs.TestLaws.{some_fails}
use Rattle.signature.proofs.value_wrong.Goals as goal

pub returns : goal.returns
unfolding value_wrong
returns c =
    any_from_yields_List (λ v. not (is_value v)) _ _ _ c.any.ensures.ran
    (YieldsList-from_slice (values_in c.args.p c.args.x.now) c.iter.ensures.rest)
    (λ x b q k. search (rules, tests))
    ∙ some_fails is_value (values_in c.args.p c.args.x.now)
