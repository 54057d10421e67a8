-- The challenge call, outcome by outcome.
use mathlib.Core.Path.{◌≡◌, refl, ◌∙◌}
use mathlib.Core.Bool.{true, false}
use Prim.Native.Nat.{ℕ, ◌≤◌, ◌<◌}
use borrow.Author.Tests.{lt-ltb, le-ltb}
use Rattle.std.proofs.Common.{Option, Some, None}
use Rattle.slices.specs.Slices.{Bytes}
use Rattle.sets.specs.declared.Set.{Set}
use Rattle.answers.specs.declared.Refusal.TheVariants.{NoSet, Limit, Room, Blocks}
use Rattle.answers.specs.Answers.{first}
use Rattle.answers.specs.Conditions.{limit_out}
use Rattle.answers.specs.Outcome.{refused, gives}
use Rattle.answers.proofs.OutcomeLaws.{set_unknown, set_known, unless-refused, unless-given}
use Rattle.hashing.specs.Hashing.{h}
use Rattle.challenge.specs.Blocks.{too_few, first_values}
use Rattle.challenge.specs.ChallengeCall.{challenge_checks, challenged}

module _ (c : Option Set) (input : Bytes) (limit output : ℕ) where
  pub challenged_no_set : c ≡ None → challenged c input limit output ≡ refused NoSet
  unfolding challenged
  challenged_no_set e = set_unknown c _ e

  module _ (p : Set) (e : c ≡ Some p) where
    pub challenged-limit : limit_out limit ≡ true → challenged c input limit output ≡ refused Limit
    unfolding challenged challenge_checks first
    challenged-limit o =
        set_known c _ p e ∙ unless-refused (challenge_checks p input limit output) (first_values p (h p 1 input) limit) Limit (rw o)

    module _ (o : limit_out limit ≡ false) where
      pub challenged-room : output < p.t → challenged c input limit output ≡ refused Room
      unfolding challenged challenge_checks first
      challenged-room s =
          set_known c _ p e
          ∙ unless-refused (challenge_checks p input limit output) (first_values p (h p 1 input) limit) Room (rw (o, lt-ltb output p.t s))

      pub challenged-few : p.t ≤ output → too_few p (h p 1 input) limit ≡ true → challenged c input limit output ≡ refused Blocks
      unfolding challenged challenge_checks first
      challenged-few s f =
          set_known c _ p e
          ∙ unless-refused (challenge_checks p input limit output) (first_values p (h p 1 input) limit) Blocks (rw (o, le-ltb output p.t s, f))

      pub challenged-given : p.t ≤ output → too_few p (h p 1 input) limit ≡ false
          → challenged c input limit output ≡ gives (first_values p (h p 1 input) limit)
      unfolding challenged challenge_checks first
      challenged-given s f =
          set_known c _ p e
          ∙ unless-given (challenge_checks p input limit output) (first_values p (h p 1 input) limit) (rw (o, le-ltb output p.t s, f))
