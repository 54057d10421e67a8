-- What a set's lengths are at most, for the check to find.
use Prim.Native.Nat.{ℕ, ◌≤◌}
use mathlib.Core.Path.{◌≡◌}
use lib.Seq.{length-take-le}
use lib.ListN.{length-replicate}
use Rattle.bits.specs.Bytes.{width}
use Rattle.sets.specs.declared.Set.{Set}
use Rattle.sets.specs.Sets.{IsSet}
use Rattle.sets.specs.Lengths.{w, transcript_length}
use Rattle.sets.proofs.Each.{most}

pub width-most : (x : ℕ) {p : Set} → IsSet p → x ≡ w p → x ≤ 32
unfolding width
width-most x h e = rw e (most w 32 tt tt tt h)

pub transcript-most : (x : ℕ) {p : Set} → IsSet p → x ≡ transcript_length p → x ≤ 143
unfolding width
transcript-most x h e = rw e (most transcript_length 143 tt tt tt h)

pub ruleset fits = (width-most, transcript-most, length-take-le, length-replicate)
