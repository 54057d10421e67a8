-- Laws of the verifying call: what its checks leave for the rounds, and the promise from what was found.
use mathlib.Core.Path.{◌≡◌, refl, sym, ap, ◌∙◌}
use mathlib.Core.Bool.{Bool, true, false, cond, not}
use mathlib.Core.List.{List, ◌++◌}
use Prim.Native.Nat.{ℕ, ◌≤◌}
use lib.ListN.{length}
use borrow.Author.Tests.{ltb-false}
use Rattle.std.proofs.Common.{Some, None, Err}
use Rattle.slices.specs.Slices.{Bytes, part, cleared, equal}
use Rattle.sets.specs.declared.Set.{Set}
use Rattle.sets.specs.Sets.{IsSet, numbered}
use Rattle.sets.specs.Lengths.{salt_length, header_length, public_length, room_length}
use Rattle.answers.specs.declared.Refusal.{Refusal}
use Rattle.answers.specs.declared.Refusal.TheVariants.{NoSet, Blocks, Differs}
use Rattle.answers.specs.Answers.{Checked, Fine, Check, first, answer}
use Rattle.answers.proofs.AnswersLaws.{group_stop, group_skip, none-holds}
use Rattle.answers.proofs.ConditionsLaws.{same_length, tables_same}
use Rattle.hashing.specs.Hashing.{h}
use Rattle.lowmc.specs.Lent.{cipher_of, Lent}
use Rattle.challenge.specs.Blocks.{too_few, first_values}
use Rattle.shape.specs.Header.{values}
use Rattle.shape.specs.Form.{form, values_in}
use Rattle.shape.specs.Reading.{read_checks}
use Rattle.shape.proofs.ReadingLaws.{sound}
use Rattle.shape.proofs.RoundTripsProof.{values_of_form}
use Rattle.shape.proofs.ShownLaws.{salt_in_place}
use Rattle.views.specs.Input.{challenge_input, verifier_filling}
use Rattle.room.specs.Room.{clears, room_after}
use Rattle.room.proofs.AfterLaws.{keeps_first}
use Rattle.verifier.specs.Verify.{Given, Verified, length_checks, verdict_checks, first_block, checks, refusal_for, SameVerified}

-- what a host hands in
abbrev pub handed : ℕ → (keys layers constants public message : Bytes) → ℕ → (room signature : Bytes) → Given
handed set_number keys layers constants public message limit room signature = record {
  set_number = set_number;
  keys = keys;
  layers = layers;
  constants = constants;
  public = public;
  message = message;
  limit = limit;
  room = room;
  signature = signature;
}

-- the verdict on the room as it was filled, in the definitions' words
pub verdict_as : (p : Set) (keys layers constants public message s filled : Bytes) (limit : ℕ) → first (read_checks p s) ≡ Fine
    → filled ≡ verifier_filling p (cipher_of p keys layers constants) public (form p s)
    → first (verdict_checks p (h p 1 (challenge_input filled (part s (header_length p) salt_length) public message)) limit (values p s))
    ≡ first (verdict_checks p (first_block p keys layers constants public message (form p s)) limit (values_in p (form p s)))
unfolding first_block
verdict_as p keys layers constants public message s filled limit c e =
    let x = (sound p s c).exact in
    λ i. first (verdict_checks p (h p 1 (challenge_input (e i) (sym (salt_in_place p s x) i) public message)) limit (sym (values_of_form p s x) i))

-- ---- what the checks of lengths leave

pub record Fitting (p : Set) (g : Given) : Type 0 where
  pub lent : Lent p g.keys g.layers g.constants
  pub public-long : length g.public ≡ public_length p
  pub room-enough : room_length p ≤ length g.room

-- the checks of lengths, of what a host hands in
abbrev pub lengths_of : Set → Given → List Check
lengths_of p g =
    length_checks p (length g.keys) (length g.layers) (length g.constants) (length g.public) (length g.message) g.limit (length g.room)

pub fitting : {p : Set} → IsSet p → (g : Given) → first (lengths_of p g) ≡ Fine → Fitting p g
unfolding length_checks
fitting {p} i g e =
    let n = none-holds (lengths_of p g) e in
    let tables = tables_same p (length g.keys) (length g.layers) (length g.constants) n.0 in
    record {
      lent = record { is_set = i; keys_length = tables.0; layers-length = tables.1; constants-length = tables.2 };
      public-long = same_length (public_length p) (length g.public) n.1.0;
      room-enough = ltb-false _ _ n.1.1.1.1.0;
    }

-- ---- the promise, from what was found

-- the verdict's checks, of what a host hands in
abbrev verdict_of : Set → Given → List Check
verdict_of p g =
    verdict_checks p (first_block p g.keys g.layers g.constants g.public g.message (form p g.signature)) g.limit
    (values_in p (form p g.signature))

clears_verdict : (b c : Bool) → clears (cond b (Err Blocks) (cond c (Err Differs) Fine)) ≡ true
unfolding clears
clears_verdict true c = refl
clears_verdict false true = refl
clears_verdict false false = refl

-- each verdict clears the room
cleared_by : (p : Set) (b : Bytes) (limit : ℕ) (es : Bytes) (v : Checked) → v ≡ first (verdict_checks p b limit es) → clears v ≡ true
unfolding verdict_checks first
cleared_by p b limit es v j = ap clears j ∙ clears_verdict (too_few p b limit) (not (equal (first_values p b limit) es))

module _ (g : Given) (a : ℕ) where
  pub no_set : numbered g.set_number ≡ None → a ≡ answer (Err NoSet) 0 → Verified g a g.room
  unfolding refusal_for room_after
  no_set e q = record { answered = rw e q; left = rw e }

  module _ {p : Set} (e : numbered g.set_number ≡ Some p) where
    -- a check holds that keeps the room
    kept : (r : Refusal) → first (checks p g) ≡ Err r → clears (Err r) ≡ false → a ≡ answer (Err r) 0 → Verified g a g.room
    unfolding refusal_for room_after
    kept r f k q = record { answered = rw (e, f) q; left = rw (e, f, k) }

    -- one of the checks of lengths holds
    pub stopped : {r : Refusal} → first (lengths_of p g) ≡ Err r → a ≡ answer (Err r) 0 → Verified g a g.room
    unfolding checks length_checks clears
    stopped {r} f q = kept r (group_stop (lengths_of p g) _ f) (keeps_first (lengths_of p g) tt f) q

    module _ (y : first (lengths_of p g) ≡ Fine) where
      passes : first (checks p g) ≡ first (read_checks p g.signature ++ verdict_of p g)
      unfolding checks length_checks
      passes = group_skip (lengths_of p g) _ y

      -- the signature does not read
      pub unread : {r : Refusal} → first (read_checks p g.signature) ≡ Err r → a ≡ answer (Err r) 0 → Verified g a g.room
      unfolding read_checks clears
      unread {r} d q = kept r (passes ∙ group_stop (read_checks p g.signature) _ d) (keeps_first (read_checks p g.signature) tt d) q

      -- it does, and the verdict was reached
      pub judged : first (read_checks p g.signature) ≡ Fine → {v : Checked} {room : Bytes} → v ≡ first (verdict_of p g) → a ≡ answer v 0
          → room ≡ cleared (room_length p) g.room → Verified g a room
      unfolding read_checks refusal_for room_after
      judged d {v} j q o =
          let s : first (checks p g) ≡ v = passes ∙ (group_skip (read_checks p g.signature) _ d ∙ sym j) in
          record { answered = rw (e, s) q; left = rw (e, s, cleared_by p _ g.limit _ v j) o }

-- ---- the promise settles the outcome

pub same_verified : SameVerified
unfolding SameVerified
same_verified g m n room room' a b = (cc, cc)
