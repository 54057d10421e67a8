-- The call that derives seeds, outcome by outcome.
use mathlib.Core.Path.{◌≡◌, ◌∙◌}
use Prim.Native.Nat.{ℕ, ◌≤◌}
use lib.ListN.{length}
use borrow.Author.Tests.{ltb-false}
use Rattle.std.proofs.Common.{Option, Some, None, Err}
use Rattle.slices.specs.Slices.{Bytes}
use Rattle.sets.specs.declared.Set.{Set}
use Rattle.sets.specs.Lengths.{seeds_length}
use Rattle.answers.specs.declared.Refusal.{Refusal}
use Rattle.answers.specs.declared.Refusal.TheVariants.{NoSet}
use Rattle.answers.specs.Answers.{Fine, first}
use Rattle.answers.specs.Outcome.{refused, gives}
use Rattle.answers.proofs.AnswersLaws.{none-holds}
use Rattle.answers.proofs.OutcomeLaws.{set_unknown, set_known, unless-refused, unless-given}
use Rattle.hashing.specs.Hashing.{derived_seeds}
use Rattle.hashing.specs.SeedsCall.{seeds_checks, seeded}

module _ (c : Option Set) (secret public message : Bytes) (n : ℕ) where
  pub seeded_no_set : c ≡ None → seeded c secret public message n ≡ refused NoSet
  unfolding seeded
  seeded_no_set e = set_unknown c _ e

  module _ (p : Set) (e : c ≡ Some p) where
    pub seeded-refused : (r : Refusal) → first (seeds_checks p (length secret) (length public) (length message) n) ≡ Err r
        → seeded c secret public message n ≡ refused r
    unfolding seeded
    seeded-refused r f = set_known c _ p e ∙ unless-refused _ (derived_seeds p secret message public) r f

    module _ (f : first (seeds_checks p (length secret) (length public) (length message) n) ≡ Fine) where
      pub seeded-given : seeded c secret public message n ≡ gives (derived_seeds p secret message public)
      unfolding seeded
      seeded-given = set_known c _ p e ∙ unless-given _ (derived_seeds p secret message public) f

      -- the output holds the seeds
      pub seeds_fit : seeds_length p ≤ n
      unfolding seeds_checks
      seeds_fit = ltb-false n (seeds_length p) (none-holds (seeds_checks p (length secret) (length public) (length message) n) f).1.1.0
