-- The hashing call, outcome by outcome.
use mathlib.Core.Path.{◌≡◌, ◌∙◌}
use Prim.Native.Nat.{ℕ, ◌≤◌, ◌<◌}
use borrow.Author.Tests.{lt-ltb, le-ltb}
use Rattle.std.proofs.Common.{Option, Some, None}
use Rattle.slices.specs.Slices.{Bytes}
use Rattle.sets.specs.declared.Set.{Set}
use Rattle.answers.specs.declared.Refusal.TheVariants.{NoSet, Room}
use Rattle.answers.specs.Answers.{first}
use Rattle.answers.specs.Conditions.{hash_most}
use Rattle.answers.specs.Outcome.{refused, gives}
use Rattle.answers.proofs.OutcomeLaws.{set_unknown, set_known, unless-refused, unless-given}
use Rattle.hashing.specs.Hashing.{kdf}
use Rattle.hashing.specs.HashCall.{hash_checks, hashed}

module _ (c : Option Set) (input : Bytes) (n : ℕ) where
  pub hashed_no_set : c ≡ None → hashed c input n ≡ refused NoSet
  unfolding hashed
  hashed_no_set e = set_unknown c _ e

  module _ (p : Set) (e : c ≡ Some p) where
    pub hashed_too_long : hash_most < n → hashed c input n ≡ refused Room
    unfolding hashed hash_checks first
    hashed_too_long h = set_known c _ p e ∙ unless-refused (hash_checks n) (kdf p input n) Room (rw (lt-ltb hash_most n h))

    pub hashed-given : n ≤ hash_most → hashed c input n ≡ gives (kdf p input n)
    unfolding hashed hash_checks first
    hashed-given h = set_known c _ p e ∙ unless-given (hash_checks n) (kdf p input n) (rw (le-ltb hash_most n h))
