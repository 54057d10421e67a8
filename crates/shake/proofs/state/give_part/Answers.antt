-- `shake::state::give_part` meets its contract: the words and the bytes behind them are the part.
use mathlib.Core.Path.{◌≡◌, sym, ap, ap₂, ◌∙◌}
use mathlib.Core.List.{◌++◌}
use Prim.Native.Nat.{◌+◌, ◌*◌, ◌/◌}
use native.Mathlib.Omega.{arith}
use lib.ListN.{length}
use Rattle.shake.specs.Shake.{bytes_at}
use Rattle.shake.proofs.StateLaws.{bytes_at-append}
use Rattle.shake.proofs.state.give_part.Goals as goal

pub returns : goal.returns
returns c =
    let g = c.args in
    let a = g.a.now in
    let h = c.split_at_mut-words.ensures in
    let m = length g.out.now / 8 * 8 in
    let n = length c.split_at_mut-words.result.1.now in
    let k : 8 * (g.j / 8) ≡ g.j = omega arith in
    let z : m + n ≡ length g.out.now = omega (arith, h.back_len) in
    ap₂ ◌++◌ (c.give_words.ensures ∙ ap₂ (bytes_at a) k h.front_len) c.give_bytes-2.ensures ∙ sym (bytes_at-append a g.j m n) ∙ ap (bytes_at a g.j) z
