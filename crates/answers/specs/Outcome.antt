-- The outcome of a call that writes one output, and what such a call promises of its answer and of the output.
use Rattle.std.specs.Prelude.{◌≡◌, cond, List, [], ℕ, length, Option, Some, None, Ok, Err}
use Rattle.slices.specs.Slices.{Bytes, over}
use Rattle.sets.specs.declared.Set.{Set}
use Rattle.answers.specs.declared.Refusal.{Refusal}
use Rattle.answers.specs.declared.Refusal.TheVariants.{NoSet}
use Rattle.answers.specs.Answers.{Checked, Fine, Check, first, answer}

-- a call refuses, or gives bytes
pub data Outcome : Type 0 where
  refused : Refusal → Outcome
  gives : Bytes → Outcome

-- a refusal, or the bytes where nothing is refused
abbrev pub outcome_of : Checked → Bytes → Outcome
outcome_of (Ok done) vs = gives vs
outcome_of (Err r) vs = refused r

-- the first check that holds refuses; where none does, the bytes are given
unfoldable pub unless : List Check → Bytes → Outcome
unless ks vs = outcome_of (first ks) vs

-- a check in front of an outcome: where it holds, it refuses
unfoldable pub behind : Check → Outcome → Outcome
behind k o = cond k.holds (refused k.gives) o

-- 1: the set is not 1, 2 or 3; else the call goes on with the set
unfoldable pub with_set : Option Set → (Set → Outcome) → Outcome
with_set None f = refused NoSet
with_set (Some set) f = f set

-- the number a host gets back: bytes written is 0 on a refusal
unfoldable pub answer_of : Outcome → ℕ
answer_of (refused r) = answer (Err r) 0
answer_of (gives vs) = answer Fine (length vs)

-- its refusal, and the bytes that it writes
abbrev pub refusal_of : Outcome → Checked
refusal_of (refused r) = Err r
refusal_of (gives vs) = Fine

abbrev pub written_by : Outcome → Bytes
written_by (refused r) = []
written_by (gives vs) = vs

-- what the output holds: a refusal keeps it; else its start is filled and what follows is kept
unfoldable pub left_by : Outcome → Bytes → Bytes
left_by (refused r) out = out
left_by (gives vs) out = over vs out

-- the promise of a call with this outcome: its answer, and its output from what it held before
pub record Promise (o : Outcome) (before : Bytes) (back : ℕ) (after : Bytes) : Type 0 where
  pub answered : back ≡ answer_of o
  pub left : after ≡ left_by o before

-- two outcomes that a promise allows are equal
unfoldable pub SameEnd : Type 0
SameEnd = (o : Outcome) (before : Bytes) (m n : ℕ) (after last : Bytes) → Promise o before m after → Promise o before n last → (m ≡ n) × (after ≡ last)
