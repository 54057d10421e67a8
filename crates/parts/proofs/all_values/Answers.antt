-- `parts::all_values` meets its contract.
use native.Mathlib.Omega.{arith}
use Rattle.std.proofs.Common.{rules, refl, ◌∙◌, ◌*◌, ◌<◌, length}
use borrow.Author.Tests.{tests}
use Rattle.std.proofs.lemmas.Iterator.{YieldsList-from_range, serves_from_Range}
use Rattle.std.proofs.lemmas.Iterator.Search.{all_from_yields_List}
use Rattle.shape.specs.Header.{value_at, is_value}
use Rattle.parts.proofs.HeadLaws.{value_inside, all_places}
use Rattle.parts.proofs.all_values.Goals as goal

pub all-requires-clause-callable : goal.all-requires-clause-callable
all-requires-clause-callable c =
    serves_from_Range (λ x q k. search rules)
    (λ x a b. let h : x < 4 * length c.args.s.now = value_inside c.args.p _ _ c.requires.1 b in search rules)

pub returns : goal.returns
returns c =
    all_from_yields_List (λ k. is_value (value_at c.args.s.now k)) _ _ _ c.all.ensures.ran
    (YieldsList-from_range 0 c.args.p.t c.args.p.t refl (omega arith)) (λ x b q k. search (rules, tests))
    ∙ all_places is_value c.args.p c.args.s.now
