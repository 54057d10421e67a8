-- What a call's promise settles, and the laws by which a call meets it.
use mathlib.Core.Path.{◌≡◌}
use mathlib.Core.Bool.{Bool, true, false}
use mathlib.Core.List.{List}
use Prim.Native.Nat.{ℕ}
use lib.ListN.{length}
use Rattle.std.proofs.Common.{Option, Some, None, Result, Ok, Err}
use Rattle.std.specs.Option.{ok_or}
use Rattle.std.specs.Result.{IsErrAnd}
use Rattle.std.proofs.lemmas.Result.{err_from_is_err_and}
use Rattle.slices.specs.Slices.{Bytes, over}
use Rattle.sets.specs.declared.Set.{Set}
use Rattle.answers.specs.declared.Refusal.{Refusal}
use Rattle.answers.specs.declared.Refusal.TheVariants.{NoSet}
use Rattle.answers.specs.Answers.{Fine, Check, when, first, as_answer}
use Rattle.answers.specs.Outcome.{Outcome, refused, gives, unless, behind, with_set, answer_of, left_by, Promise, SameEnd}

pub same : SameEnd
unfolding SameEnd
same o before m n after last p q = (cc, cc)

-- no such set
pub set_unknown : (c : Option Set) (f : Set → Outcome) → c ≡ None → with_set c f ≡ refused NoSet
unfolding with_set
set_unknown c f e = rw e

pub set_known : (c : Option Set) (f : Set → Outcome) (p : Set) → c ≡ Some p → with_set c f ≡ f p
unfolding with_set
set_known c f p e = rw e

-- a check that holds first refuses
pub unless-refused : (ks : List Check) (vs : Bytes) (r : Refusal) → first ks ≡ Err r → unless ks vs ≡ refused r
unfolding unless
unless-refused ks vs r e = rw e

-- where none holds the bytes are given
pub unless-given : (ks : List Check) (vs : Bytes) → first ks ≡ Fine → unless ks vs ≡ gives vs
unfolding unless
unless-given ks vs e = rw e

-- a check in front that holds refuses
pub behind-holds : (b : Bool) (r : Refusal) (o : Outcome) → b ≡ true → behind (when b r) o ≡ refused r
unfolding behind
behind-holds b r o e = rw e

-- one that does not hold leaves the outcome
pub behind_passes : (b : Bool) (r : Refusal) (o : Outcome) → b ≡ false → behind (when b r) o ≡ o
unfolding behind
behind_passes b r o e = rw e

-- ---- how a call meets its promise: r is what its function answers, and the host gets the number of that

-- it refuses, and keeps the output
pub promise_refused : (o : Outcome) (x : Refusal) (out : Bytes) {r : Result ℕ Refusal} → o ≡ refused x → r ≡ Err x → Promise o out (as_answer r) out
unfolding answer_of left_by
promise_refused o x out {r} e a = record { answered = rw (e, a); left = rw e }

-- it gives bytes, over the start of the output
pub promise_given : (o : Outcome) (vs out after : Bytes) (n : ℕ) → o ≡ gives vs → n ≡ length vs → after ≡ over vs out → Promise o out (as_answer (Ok n)) after
unfolding answer_of left_by
promise_given o vs out after n e l k = record { answered = rw (e, l); left = rw e k }

-- `?` hands a refusal on as it is
pub handed_on : {X : Type 0} {x : Refusal} (r : Result X Refusal) → IsErrAnd r (λ y. y ≡ x) → r ≡ Err x
handed_on r h = let p = err_from_is_err_and r h in rw (p.1, p.2)

-- and 1 where no set is found
pub no_such_set : {X : Type 0} {c : Option Set} {x : Refusal} (r : Result X Refusal) → c ≡ None → Err x ≡ ok_or c NoSet → IsErrAnd r (λ y. y ≡ x) → r ≡ Err NoSet
no_such_set {X} {c} {x} r e v h = let f : ◌≡◌ {A = Result Set Refusal} (Err x) (Err NoSet) = rw e at v in cc (handed_on r h)
