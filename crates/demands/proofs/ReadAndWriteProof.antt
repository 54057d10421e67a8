-- Demand 2 at picnic_read and picnic_write, from the round trips of reading and writing.
use mathlib.Core.Path.{◌≡◌, refl, sym, ap, ◌∙◌}
use mathlib.Core.Bool.{Bool, true, false, cond}
use mathlib.Core.List.{List}
use Prim.Native.Nat.{ℕ, ◌^◌, ◌≤◌, ◌<◌}
use native.Mathlib.Omega.{arith}
use lib.ListN.{length, take, drop}
use lib.Seq.{take_at}
use borrow.Author.Tests.{le-ltb}
use Rattle.std.proofs.Common.{Option, Some, None, Ok, Err}
use Rattle.slices.specs.Slices.{Bytes, over}
use Rattle.sets.specs.declared.Set.{Set}
use Rattle.sets.specs.Sets.{numbered}
use Rattle.sets.specs.Lengths.{longest, unpacked_length}
use Rattle.answers.specs.declared.Refusal.{Refusal}
use Rattle.answers.specs.declared.Refusal.TheVariants.{Room}
use Rattle.answers.specs.Answers.{Checked, Fine, Check, when, first, answer}
use Rattle.answers.specs.Outcome.{Outcome, refused, gives, outcome_of, unless, behind, with_set, answer_of, left_by, Promise}
use Rattle.answers.proofs.AnswersLaws.{number-least}
use Rattle.answers.proofs.OutcomeLaws.{set_known, unless-given, behind_passes}
use Rattle.shape.specs.Form.{form, signature}
use Rattle.shape.specs.Reading.{reading, writing, read_into, write_into, read, write}
use Rattle.shape.specs.RoundTrips.{ReadIsWritten, WrittenIsRead}
use Rattle.shape.proofs.RoundTripsProof.{read_is_written, written_is_read}
use Rattle.demands.specs.ReadAndWrite.{ReadThenWritten, WrittenThenRead}

-- ---- a call that gives bytes

module _ (o : Outcome) (vs before : Bytes) (n : ℕ) (after : Bytes) (g : o ≡ gives vs) (k : Promise o before n after) where
  pub promise_gave : (n ≡ length vs) × (after ≡ over vs before)
  unfolding answer_of left_by
  promise_gave =
      let a : n ≡ answer Fine (length vs) = k.answered ∙ ap answer_of g in
      (omega (arith, a), k.left ∙ ap (λ (x : Outcome). left_by x before) g)

  -- as many bytes as it answered are those it promise_gave
  pub gave_bytes : take n after ≡ vs
  unfolding over
  gave_bytes = let (a, b) = promise_gave in rw b (take_at vs (drop (length vs) before) n (sym a))

after_alone : (c : Checked) (vs : Bytes) (n : ℕ) → n ≡ answer_of (outcome_of c vs) → n < 2 ^ 32 → c ≡ Fine
unfolding answer_of
after_alone (Ok done) vs n a l = refl
after_alone (Err r) vs n a l = absurd (omega (arith, number-least r))

-- where a length alone is answered, the checks pass
pub unless_alone : (ks : List Check) (vs before : Bytes) (n : ℕ) (after : Bytes) → Promise (unless ks vs) before n after → n < 2 ^ 32 → first ks ≡ Fine
unfolding unless answer_of
unless_alone ks vs before n after k l = after_alone (first ks) vs n k.answered l

-- and a check in front passes
behind_alone : (b : Bool) (r : Refusal) (o : Outcome) (before : Bytes) (n : ℕ) (after : Bytes)
    → Promise (behind (when b r) o) before n after → n < 2 ^ 32 → Promise o before n after
unfolding behind answer_of
behind_alone true r o before n after k l = absurd (omega (arith, k.answered, number-least r))
behind_alone false r o before n after k l = k

-- and there is a set
pub record Chose (c : Option Set) (f : Set → Outcome) (before : Bytes) (n : ℕ) (after : Bytes) : Type 0 where
  pub p : Set
  pub known : c ≡ Some p
  pub promise : Promise (f p) before n after

chose : (c : Option Set) (f : Set → Outcome) (before : Bytes) (n : ℕ) (after : Bytes) → Promise (with_set c f) before n after → n < 2 ^ 32
    → Chose c f before n after
unfolding with_set answer_of
chose None f before n after k l = absurd (omega (arith, k.answered))
chose (Some p) f before n after k l = record { p = p; known = refl; promise = k }

-- ---- the two calls

module _ (c : Option Set) (p : Set) (known : c ≡ Some p) (s : Bytes) (n : ℕ) where
  read-given : (x : Bytes) → unpacked_length p ≤ n → reading p s ≡ gives x → read c s n ≡ gives x
  unfolding read read_into
  read-given x l e = set_known c _ p known ∙ (behind_passes _ Room (reading p s) (le-ltb n (unpacked_length p) l) ∙ e)

  write-given : (x : Bytes) → longest p ≤ n → writing p s ≡ gives x → write c s n ≡ gives x
  unfolding write write_into
  write-given x l e = set_known c _ p known ∙ (behind_passes _ Room (writing p s) (le-ltb n (longest p) l) ∙ e)

-- what a call has left where it answers a length alone
module _ (p : Set) (s before : Bytes) (n : ℕ) (after : Bytes) (l : n < 2 ^ 32) where
  read_left : Promise (read_into p s (length before)) before n after → (reading p s ≡ gives (form p s)) × (take n after ≡ form p s)
  unfolding read_into reading
  read_left k =
      let h = behind_alone _ Room (reading p s) before n after k l in
      let e = unless-given _ _ (unless_alone _ _ before n after h l) in
      (e, gave_bytes _ (form p s) before n after e h)

  write-left : Promise (write_into p s (length before)) before n after → (writing p s ≡ gives (signature p s)) × (take n after ≡ signature p s)
  unfolding write_into writing
  write-left k =
      let h = behind_alone _ Room (writing p s) before n after k l in
      let e = unless-given _ _ (unless_alone _ _ before n after h l) in
      (e, gave_bytes _ (signature p s) before n after e h)

pub read_then_written : ReadThenWritten
unfolding ReadThenWritten ReadIsWritten read
read_then_written set s before x n small k l output last m long again =
    let c = chose (numbered set) (λ p. read_into p s (length before)) before n x k l in
    let p = c.p in
    let (r, b) = read_left p s before n x l c.promise in
    let g = write-given (numbered set) p c.known (form p s) (length output) s (long p c.known) (read_is_written p s (form p s) small r) in
    promise_gave _ s output m last (ap (λ (y : Bytes). write (numbered set) y (length output)) b ∙ g) again

pub written_then_read : WrittenThenRead
unfolding WrittenThenRead WrittenIsRead write
written_then_read set x before s n k l output last m long again =
    let c = chose (numbered set) (λ p. write_into p x (length before)) before n s k l in
    let p = c.p in
    let (r, b) = write-left p x before n s l c.promise in
    let g = read-given (numbered set) p c.known (signature p x) (length output) x (long p c.known) (written_is_read p x (signature p x) r) in
    promise_gave _ x output m last (ap (λ (y : Bytes). read (numbered set) y (length output)) b ∙ g) again
