-- `parts::pair` meets its contract.
use Rattle.std.proofs.Common.{rules, arith, ◌≡◌, ap, ℕ, ◌+◌, ◌*◌, ◌/◌, ◌%◌, ◌∙◌, get_or}
use Rattle.std.proofs.lemmas.Option.{gets}
use Rattle.shape.proofs.HeaderLaws.{pair-value}
use Rattle.parts.proofs.pair.Goals as goal

pub returns : goal.returns
returns c =
    let v : c.unwrap_or.result ≡ get_or c.args.values.now c.args.k 0 = search (rules, gets) in
    c.exchanged.ensures ∙ (ap (λ (v : ℕ). 2 * (v % 2) + v / 2) v ∙ pair-value c.args.values.now c.args.k (omega (arith, c.requires c.args.k)))
