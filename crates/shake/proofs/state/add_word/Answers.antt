-- `shake::state::add_word` meets its contract.
use mathlib.Core.Path.{refl}
use Rattle.shake.proofs.StateLaws.{word_aligned, word_across}
use Rattle.shake.proofs.state.add_word.Goals as goal

pub returns-then-d-ne0 : goal.returns-then-d-ne0
returns-then-d-ne0 c =
    word_across c.args.a.now c.args.j c.args.w c.told-a c.requires c.ranges.w.fits _ refl

pub returns-else-d-ne0 : goal.returns-else-d-ne0
returns-else-d-ne0 c =
    word_aligned c.args.a.now c.args.j c.args.w c.told-a c.requires c.ranges.w.fits c.if-d-ne0.false
