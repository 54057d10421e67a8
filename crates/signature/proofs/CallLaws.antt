-- How the two calls meet their promises.
use mathlib.Core.Path.{◌≡◌, ◌∙◌}
use Prim.Native.Nat.{ℕ, ◌≤◌, ◌<◌}
use native.Mathlib.Omega.{arith}
use lib.ListN.{length}
use borrow.Author.Tests.{lt-ltb, le-ltb}
use Rattle.std.proofs.Common.{Option, Some, None, Err}
use Rattle.slices.specs.Slices.{Bytes}
use Rattle.sets.specs.declared.Set.{Set}
use Rattle.sets.specs.Sets.{IsSet}
use Rattle.sets.specs.Lengths.{longest, unpacked_length}
use Rattle.answers.specs.declared.Refusal.{Refusal}
use Rattle.answers.specs.declared.Refusal.TheVariants.{NoSet, Room}
use Rattle.answers.specs.Answers.{Fine, first}
use Rattle.answers.specs.Outcome.{refused, gives, Promise}
use Rattle.answers.proofs.OutcomeLaws.{set_unknown, set_known, unless-refused, unless-given, behind-holds, behind_passes}
use Rattle.shape.specs.Header.{values, AreValues}
use Rattle.shape.specs.Rounds.{signature_length}
use Rattle.shape.specs.Form.{form, values_in, signature}
use Rattle.shape.specs.Reading.{read_checks, write_checks, reading, writing, read_into, write_into, read, write}
use Rattle.shape.proofs.ReadingLaws.{sound, whole}
use Rattle.shape.proofs.RoundTripsProof.{are_values, length-values_in, length-signature}
use Rattle.shape.proofs.RoundsLaws.{signature-most}
use Rattle.shape.proofs.SetFacts.{longest≤}

-- ---- for a set that is known

module _ (p : Set) (s : Bytes) (n : ℕ) where
  pub read_small : n < unpacked_length p → read_into p s n ≡ refused Room
  unfolding read_into
  read_small h = behind-holds _ Room _ (lt-ltb _ _ h)

  pub read-refused : unpacked_length p ≤ n → (r : Refusal) → first (read_checks p s) ≡ Err r → read_into p s n ≡ refused r
  unfolding read_into reading
  read-refused h r e = behind_passes _ Room _ (le-ltb _ _ h) ∙ unless-refused _ _ r e

  pub read_done : unpacked_length p ≤ n → first (read_checks p s) ≡ Fine → read_into p s n ≡ gives (form p s)
  unfolding read_into reading
  read_done h e = behind_passes _ Room _ (le-ltb _ _ h) ∙ unless-given _ _ e

  pub write-small : n < longest p → write_into p s n ≡ refused Room
  unfolding write_into
  write-small h = behind-holds _ Room _ (lt-ltb _ _ h)

  pub write-refused : longest p ≤ n → (r : Refusal) → first (write_checks p s) ≡ Err r → write_into p s n ≡ refused r
  unfolding write_into writing
  write-refused h r e = behind_passes _ Room _ (le-ltb _ _ h) ∙ unless-refused _ _ r e

  pub write_done : longest p ≤ n → first (write_checks p s) ≡ Fine → write_into p s n ≡ gives (signature p s)
  unfolding write_into writing
  write_done h e = behind_passes _ Room _ (le-ltb _ _ h) ∙ unless-given _ _ e

-- ---- for the set of a number

module _ (c : Option Set) (s : Bytes) (n : ℕ) where
  pub read_unknown : c ≡ None → read c s n ≡ refused NoSet
  unfolding read
  read_unknown e = set_unknown c _ e

  pub write_unknown : c ≡ None → write c s n ≡ refused NoSet
  unfolding write
  write_unknown e = set_unknown c _ e

module _ (c : Option Set) (p : Set) (e : c ≡ Some p) (s : Bytes) (n : ℕ) (out : Bytes) (a : ℕ) (last : Bytes) where
  pub read_known : Promise (read_into p s n) out a last → Promise (read c s n) out a last
  unfolding read
  read_known h = rw (set_known c (λ q. read_into q s n) p e) h

  pub write_known : Promise (write_into p s n) out a last → Promise (write c s n) out a last
  unfolding write
  write_known h = rw (set_known c (λ q. write_into q s n) p e) h

-- ---- what passed its checks

-- a signature that is read has the exact length
pub read-exact : (p : Set) (s : Bytes) → first (read_checks p s) ≡ Fine → length s ≡ signature_length p (values p s)
read-exact p s e = (sound p s e).exact

-- the values of a form that passes are values
pub whole-values : (p : Set) (x : Bytes) → first (write_checks p x) ≡ Fine → AreValues (values_in p x)
whole-values p x e = are_values (values_in p x) (whole p x e).valued

-- a signature's length is small
pub signature-small : {p : Set} → IsSet p → (x : Bytes) → first (write_checks p x) ≡ Fine → length (signature p x) ≤ 132856
signature-small {p} q x e =
    let h = (whole p x e).exact in
    omega (arith, length-signature p x h, signature-most p (values_in p x) (length-values_in p x h), longest≤ q)
