-- An answer has two halves where its call writes fewer than 2^32 bytes, and how few a call writes.
use mathlib.Core.Path.{◌≡◌, refl}
use mathlib.Core.Bool.{Bool, true, false, cond}
use mathlib.Core.List.{List}
use Prim.Native.Nat.{ℕ, ◌^◌, ◌<◌}
use native.Mathlib.Omega.{arith}
use lib.ListN.{length}
use Rattle.std.proofs.Common.{Option, Some, None, Ok, Err}
use Rattle.slices.specs.Slices.{Bytes}
use Rattle.sets.specs.declared.Set.{Set}
use Rattle.sets.specs.Sets.{IsSet, numbered}
use Rattle.sets.proofs.Each.{known_set}
use Rattle.answers.specs.Answers.{Checked, Fine, Check, first}
use Rattle.answers.specs.Outcome.{Outcome, refused, gives, outcome_of, unless, behind, with_set, answer_of, written_by, Promise}
use Rattle.answers.proofs.AnswersLaws.{halves_of}
use Rattle.demands.specs.Halves.{HalvesOf}

-- an outcome with fewer than 2^32 bytes
abbrev pub Small : Outcome → Type 0
Small o = length (written_by o) < 2 ^ 32

-- its answer has its halves
pub outcome_halves : (o : Outcome) (before : Bytes) (back : ℕ) (after : Bytes) → Promise o before back after → Small o → HalvesOf o back
unfolding answer_of
outcome_halves (refused r) before back after k l = rw k.answered (halves_of (Err r) 0 l)
outcome_halves (gives vs) before back after k l = rw k.answered (halves_of Fine (length vs) l)

after-small : (c : Checked) (vs : Bytes) → (c ≡ Fine → length vs < 2 ^ 32) → Small (outcome_of c vs)
after-small (Ok done) vs h = h refl
after-small (Err r) vs h = omega arith

-- bytes that are given where all checks pass
pub unless-small : (ks : List Check) (vs : Bytes) → (first ks ≡ Fine → length vs < 2 ^ 32) → Small (unless ks vs)
unfolding unless
unless-small ks vs h = after-small (first ks) vs h

-- a check in front
pub behind-small : (k : Check) (o : Outcome) → Small o → Small (behind k o)
unfolding behind
behind-small k o l = go k.holds
  where
    go : (b : Bool) → Small (cond b (refused k.gives) o)
    go true = omega arith
    go false = l

-- the set of a number, whichever of the three it is
pub set_small : (k : ℕ) (f : Set → Outcome) → ((p : Set) → IsSet p → Small (f p)) → Small (with_set (numbered k) f)
unfolding with_set
set_small k f h = go (numbered k) refl
  where
    go : (c : Option Set) → numbered k ≡ c → Small (with_set c f)
    go None e = omega arith
    go (Some p) e = h p (known_set k p e)
