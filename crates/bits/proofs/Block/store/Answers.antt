-- `bits::Block::store` meets its contract.
use native.Mathlib.Omega.{arith}
use mathlib.Core.Path.{◌≡◌, refl, ap, ◌∙◌}
use mathlib.Core.List.{List}
use Prim.Native.Nat.{ℕ, ◌*◌}
use lib.ListN.{length, get_or, take, replicate}
use lib.Seq.{length-take-le}
use Rattle.slices.specs.Slices.{put}
use Rattle.slices.proofs.SliceLaws.{put_all, over-whole}
use Rattle.bits.specs.Bytes.{bytes}
use Rattle.bits.specs.Words.{word_bits, list_bits}
use Rattle.bits.proofs.BytesLaws.{put_no_bytes, length-bytes}
use Rattle.bits.proofs.WordsLaws.{put_word, bytes_first}
use Rattle.bits.proofs.Block.store.Goals as goal

pub loop-k-init : goal.loop-k-init
loop-k-init c = (refl, put_no_bytes (replicate 32 0) 0 _)

pub loop-k-preserved : goal.loop-k-preserved
loop-k-preserved c =
    let ws = c.args.self.words in
    let l = c.loop-k in
    let w = c.store_word in (
      w.auto.s ∙ l.invariant.0,
      w.ensures ∙ ap (λ (y : List ℕ). put y (8 * l.k) (bytes 8 (word_bits (get_or ws l.k 0)))) l.invariant.1
          ∙ put_word (replicate 32 0) ws l.k (omega arith),
    )

pub returns : goal.returns
returns c =
    let x = list_bits c.args.self.words in
    let l = c.loop-k in
    let n = length c.args.s.now in
    let e : l.k ≡ 4 = omega arith in
    c.copy.ensures
    ∙ over-whole (take n l.b) c.args.s.now (length-take-le n l.b (omega (arith, l.invariant.0, c.requires)))
    ∙ ap (take n) (l.invariant.1 ∙ ap (λ (k : ℕ). put (replicate 32 0) 0 (bytes (8 * k) x)) e ∙ put_all (replicate 32 0) (bytes 32 x) (length-bytes 32 x))
    ∙ bytes_first n 32 x c.requires
