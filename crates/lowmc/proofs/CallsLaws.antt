-- The calls over LowMC, outcome by outcome.
use mathlib.Core.Path.{◌≡◌, ◌∙◌}
use Prim.Native.Nat.{ℕ, ◌≤◌}
use native.Mathlib.Omega.{arith}
use lib.ListN.{length, length-append}
use borrow.Author.Tests.{ltb-false}
use Rattle.std.proofs.Common.{Option, Some, None, Err}
use Rattle.slices.specs.Slices.{Bytes}
use Rattle.lowmc.proofs.EncryptedLaws.{length-encrypted}
use Rattle.sets.specs.declared.Set.{Set}
use Rattle.sets.specs.Lengths.{w, public_length, keys_length, layers_length, constants_length}
use Rattle.sets.specs.Sets.{IsSet}
use Rattle.answers.specs.declared.Refusal.{Refusal}
use Rattle.answers.specs.declared.Refusal.TheVariants.{NoSet}
use Rattle.answers.specs.Answers.{Fine, first}
use Rattle.answers.proofs.ConditionsLaws.{tables_same, blocks_same}
use Rattle.answers.specs.Outcome.{refused, gives}
use Rattle.answers.proofs.AnswersLaws.{none-holds}
use Rattle.answers.proofs.OutcomeLaws.{set_unknown, set_known, unless-refused, unless-given}
use Rattle.lowmc.specs.Lent.{Lent}
use Rattle.lowmc.specs.Encrypted.{encrypted, public_key}
use Rattle.lowmc.specs.Calls.{lowmc_checks, encrypt_outcome, public_key_outcome}

-- what stands where none of the checks holds: exact lengths, and an output that holds what is wanted
pub record Passed (p : Set) (keys layers constants secret block wanted n : ℕ) : Type 0 where
  pub keys_length : keys ≡ keys_length p
  pub layers-length : layers ≡ layers_length p
  pub constants-length : constants ≡ constants_length p
  pub secret-length : secret ≡ w p
  pub block_length : block ≡ w p
  pub enough : wanted ≤ n

pub passed : (p : Set) (keys layers constants secret block wanted n : ℕ)
    → first (lowmc_checks p keys layers constants secret block wanted n) ≡ Fine → Passed p keys layers constants secret block wanted n
unfolding lowmc_checks
passed p keys layers constants secret block wanted n f =
    let h = none-holds (lowmc_checks p keys layers constants secret block wanted n) f in
    let tables = tables_same p keys layers constants h.0 in
    let blocks = blocks_same p secret block h.1.0 in
    record {
      keys_length = tables.0;
      layers-length = tables.1;
      constants-length = tables.2;
      secret-length = blocks.0;
      block_length = blocks.1;
      enough = ltb-false n wanted h.1.1.0;
    }

pub lent : (p : Set) (keys layers constants secret block : Bytes) (wanted n : ℕ) → IsSet p
    → Passed p (length keys) (length layers) (length constants) (length secret) (length block) wanted n → Lent p keys layers constants
lent p keys layers constants secret block wanted n i h = record {
  is_set = i;
  keys_length = h.keys_length;
  layers-length = h.layers-length;
  constants-length = h.constants-length;
}

module _ (c : Option Set) (keys layers constants secret block : Bytes) (n : ℕ) where
  pub encrypt_no_set : c ≡ None → encrypt_outcome c keys layers constants secret block n ≡ refused NoSet
  unfolding encrypt_outcome
  encrypt_no_set e = set_unknown c _ e

  pub public_no_set : c ≡ None → public_key_outcome c keys layers constants secret block n ≡ refused NoSet
  unfolding public_key_outcome
  public_no_set e = set_unknown c _ e

  module _ (p : Set) (e : c ≡ Some p) (wanted : ℕ) where
    module _ (r : Refusal)
        (is : first (lowmc_checks p (length keys) (length layers) (length constants) (length secret) (length block) wanted n) ≡ Err r) where
      pub encrypt-refused : wanted ≡ w p → encrypt_outcome c keys layers constants secret block n ≡ refused r
      unfolding encrypt_outcome
      encrypt-refused q = set_known c _ p e ∙ unless-refused _ (encrypted p keys layers constants secret block) r (rw (← q) is)

      pub public-refused : wanted ≡ public_length p → public_key_outcome c keys layers constants secret block n ≡ refused r
      unfolding public_key_outcome
      public-refused q = set_known c _ p e ∙ unless-refused _ (public_key p keys layers constants secret block) r (rw (← q) is)

    module _ (is : first (lowmc_checks p (length keys) (length layers) (length constants) (length secret) (length block) wanted n) ≡ Fine) where
      pub encrypt-given : wanted ≡ w p → encrypt_outcome c keys layers constants secret block n ≡ gives (encrypted p keys layers constants secret block)
      unfolding encrypt_outcome
      encrypt-given q = set_known c _ p e ∙ unless-given _ (encrypted p keys layers constants secret block) (rw (← q) is)

      pub public-given : wanted ≡ public_length p → public_key_outcome c keys layers constants secret block n ≡ gives (public_key p keys layers constants secret block)
      unfolding public_key_outcome
      public-given q = set_known c _ p e ∙ unless-given _ (public_key p keys layers constants secret block) (rw (← q) is)

-- ---- how long what is given is

pub length-public : (p : Set) (keys layers constants secret block : Bytes) → length block ≡ w p
    → length (public_key p keys layers constants secret block) ≡ public_length p
unfolding public_key
length-public p keys layers constants secret block h =
    omega (arith, length-append (encrypted p keys layers constants secret block) block, length-encrypted p keys layers constants secret block)
