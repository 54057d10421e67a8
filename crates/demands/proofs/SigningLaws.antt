-- What it means that signing refuses nothing: each check has passed, and the bytes that are answered are the signature.
use mathlib.Core.Path.{◌≡◌, refl, ap, ◌∙◌}
use mathlib.Core.Bool.{false, ◌||◌}
use mathlib.Core.List.{◌++◌}
use Prim.Native.Nat.{ℕ, ◌<◌, ◌^◌}
use native.Mathlib.Omega.{arith}
use lib.ListN.{length, take, drop}
use lib.Seq.{take_at}
use borrow.Author.Tests.{not-false}
use Rattle.std.proofs.Common.{Option, Some, None}
use Rattle.slices.specs.Slices.{Bytes, over}
use Rattle.slices.proofs.EqualLaws.{equal-true}
use Rattle.sets.specs.declared.Set.{Set}
use Rattle.sets.specs.Sets.{numbered}
use Rattle.sets.specs.Lengths.{w, public_length, seeds_length, room_length, longest}
use Rattle.answers.specs.Answers.{Checked, Fine, first, answer}
use Rattle.answers.specs.Conditions.{other, tables_other, keys_other, message_out, limit_out, too_short}
use Rattle.answers.proofs.AnswersLaws.{zero_is, none-holds}
use Rattle.answers.proofs.ConditionsLaws.{neither, same_length}
use Rattle.lowmc.specs.Encrypted.{encrypted, ciphertext, plaintext}
use Rattle.challenge.specs.Blocks.{too_few}
use Rattle.signer.specs.Sign.{Given, Signed, length_checks, checks, first_block, signature_of, signature_by, refusal_for, refusal, written}

-- what the checks of signing leave
pub record Passed (p : Set) (g : Given) : Type 0 where
  pub tables : tables_other p (length g.keys) (length g.layers) (length g.constants) ≡ false
  pub public : other (public_length p) (length g.public) ≡ false
  pub message : message_out (length g.message) ≡ false
  pub limit : limit_out g.limit ≡ false
  pub seeds : length g.seeds ≡ seeds_length p
  pub pair : encrypted p g.keys g.layers g.constants g.secret (plaintext p g.public) ≡ ciphertext p g.public
  pub enough : too_few p (first_block p g) g.limit ≡ false

pub passed : (p : Set) (g : Given) → first (checks p g) ≡ Fine → Passed p g
unfolding checks length_checks keys_other
passed p g f =
    let n = none-holds (checks p g) f in
    let seeds = other (seeds_length p) (length g.seeds) in
    let room = too_short (room_length p) (length g.room) in
    let output = too_short (longest p) (length g.output) in
    record {
      tables = n.0;
      public = (neither (other (w p) (length g.secret)) (other (public_length p) (length g.public)) n.1.0).1;
      message = n.1.1.0;
      limit = n.1.1.1.0;
      seeds = same_length _ _ (neither seeds room (neither (seeds || room) output n.1.1.1.1.0).0).0;
      pair = equal-true _ _ (not-false _ n.1.1.1.1.1.0);
      enough = n.1.1.1.1.1.1.0;
    }

-- the set is known, and nothing is refused
pub record Made (g : Given) : Type 0 where
  pub p : Set
  pub known : numbered g.set_number ≡ Some p
  pub none : first (checks p g) ≡ Fine

chosen : (g : Given) (c : Option Set) → numbered g.set_number ≡ c → refusal_for c g ≡ Fine → Made g
unfolding refusal_for
chosen g None e f = cc
chosen g (Some p) e f = record { p = p; known = e; none = f }

pub made : (g : Given) → refusal g ≡ Fine → Made g
made g f = chosen g (numbered g.set_number) refl f

-- the bytes that are answered are the signature
pub answered-bytes : (g : Given) (n : ℕ) (room output : Bytes) → Signed g n room output → refusal g ≡ Fine → (m : Made g)
    → take n output ≡ signature_of m.p g
unfolding written signature_by over
answered-bytes g n room output s f m =
    let signature = signature_of m.p g in
    let e : written g ≡ signature = rw (f, m.known) in
    let a : n ≡ answer Fine (length (written g)) = s.answered ∙ ap (λ (c : Checked). answer c (length (written g))) f in
    let l : length signature ≡ n = omega (arith, a, ap length e) in
    rw s.left-output (ap (λ (x : Bytes). take n (x ++ drop (length x) g.output)) e ∙ take_at signature _ n l)

-- an answer below 2^32 refuses nothing
pub length_alone : (g : Given) (n : ℕ) (room output : Bytes) → Signed g n room output → n < 2 ^ 32 → refusal g ≡ Fine
length_alone g n room output s l = zero_is (refusal g) (omega (arith, s.answered))
