-- `slices::equal` meets its contract.
use Rattle.std.proofs.Common.{ap, ◌∙◌}
use Rattle.std.proofs.lemmas.Iterator.{YieldsList-from_slice, YieldsList-from_zip}
use Rattle.std.proofs.lemmas.Iterator.Consumers.{fold_from_yields_List}
use borrow.Author.Tests.{tests, ne_eqb}
use borrow.Author.Rules.{rules}
use Prim.Native.Nat.{ℕ}
use lib.Bits.{bit_or, bit_xor}
use lib.Dec.{eqb}
use Rattle.slices.proofs.EqualLaws.{gathered-equal, equal-other}
use Rattle.slices.proofs.equal.Goals as goal

pub returns-then-a-b : goal.returns-then-a-b
returns-then-a-b c =
    ap (λ (d : ℕ). eqb d 0) (fold_from_yields_List _ (λ (d : ℕ) (p : ℕ × ℕ). bit_or d (bit_xor p.0 p.1)) 0 _ c.fold.ensures.ran
    (YieldsList-from_zip (YieldsList-from_slice c.args.a.now cc) (YieldsList-from_slice c.args.b.now cc)) (λ d p e q k. search (rules, tests)))
    ∙ gathered-equal c.args.a.now c.args.b.now 0 c.if-a-b.true

pub returns-else-a-b : goal.returns-else-a-b
returns-else-a-b c = ne_eqb _ _ c.if-a-b.false ∙ equal-other _ _ c.if-a-b.false
