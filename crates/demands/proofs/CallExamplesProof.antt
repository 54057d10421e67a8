-- 01's examples of a block limit and of a message's length hold at the calls that take them.
use mathlib.Core.Path.{◌≡◌, refl, sym, ap, ◌∙◌}
use mathlib.Core.Logic.{⊎_elim}
use mathlib.Core.Bool.{Bool, true, false}
use mathlib.Core.List.{List, [], ◌∷◌}
use Prim.Native.Nat.{ℕ, ◌/◌, ◌^◌, ◌≤◌}
use native.Mathlib.Omega.{arith}
use lib.Dec.{T, leb, lit≤}
use lib.ListN.{length}
use Rattle.std.proofs.Common.{Option, Some, None, Err}
use Rattle.sets.specs.declared.Set.{Set}
use Rattle.slices.specs.Slices.{Bytes}
use Rattle.sets.specs.Sets.{numbered, l1}
use Rattle.sets.specs.Lengths.{seeds_length}
use Rattle.answers.specs.declared.Refusal.TheVariants.{NoSet, Table, Key, Message, Room, Blocks}
use Rattle.answers.specs.Answers.{Checked, code, fine, Check, when, first, Halves}
use Rattle.answers.specs.Conditions.{keys_other, message_out, too_short}
use Rattle.answers.specs.Outcome.{with_set, refusal_of}
use Rattle.hashing.specs.Hashing.{derived_seeds}
use Rattle.hashing.specs.SeedsCall.{seeds_checks, seeded}
use Rattle.challenge.specs.Blocks.{too_few}
use Rattle.challenge.proofs.LimitsProof.{one-few}
use Rattle.shape.specs.Form.{form}
use Rattle.shape.specs.Reading.{read_checks}
use Rattle.signer.specs.Sign as sign
use Rattle.verifier.specs.Verify as verify
use Rattle.demands.specs.Examples.{OneBlockSignsNothing, OneBlockVerifiesNothing, MessageExample, MessageExamples}
use Rattle.demands.proofs.FirstLaws.{here, past, reached, raised, not_raised, unless-refusal, outcome_writes, alone}
use Rattle.demands.proofs.SignHalves.{sign-writes, sign_halves, verify_halves}
use Rattle.demands.proofs.HalvesProof.{every_answer_has_halves}

-- ---- block limit 1, set 1

-- a number of a range, none of which is answered
among : (n lo hi : ℕ) → ((k : ℕ) → lo ≤ k → k ≤ hi → ¬ (n ≡ k)) → (k : ℕ) → T (leb lo k) → T (leb k hi) → ¬ (n ≡ k)
among n lo hi none k a b = none k (lit≤ a) (lit≤ b)

pub one_block_signs_nothing : OneBlockSignsNothing
unfolding OneBlockSignsNothing sign.refusal_for sign.checks sign.length_checks sign.first_block
one_block_signs_nothing g k l back room output s none =
    let v = sign_halves g back room output s in
    let e : sign.refusal g ≡ first (sign.checks l1 g) = ap (λ (n : ℕ). sign.refusal_for (numbered n) g) k in
    let few : too_few l1 (sign.first_block l1 g) g.limit ≡ true = rw l (one-few _) in
    let no = among (back / 2 ^ 32) 1 7 none in
    let later = past (no 5 tt tt) (past (no 6 tt tt) (past (no 7 tt tt) (here few))) in
    let way = past (no 2 tt tt) (past (no 3 tt tt) (past (no 4 tt tt) later)) in
    alone back _ (sign.refusal g) v (sign-writes g) Blocks (e ∙ reached (back / 2 ^ 32) Blocks (sign.checks l1 g) way (v.upper ∙ ap code e))

pub one_block_verifies_nothing : OneBlockVerifiesNothing
unfolding OneBlockVerifiesNothing verify.refusal_for verify.checks verify.length_checks read_checks verify.verdict_checks verify.first_block
one_block_verifies_nothing g k l back room s none nor =
    let v = verify_halves g back room s in
    let e : verify.refusal g ≡ first (verify.checks l1 g) = ap (λ (n : ℕ). verify.refusal_for (numbered n) g) k in
    let x = form l1 g.signature in
    let few : too_few l1 (verify.first_block l1 g.keys g.layers g.constants g.public g.message x) g.limit ≡ true = rw l (one-few _) in
    let no = among (back / 2 ^ 32) 1 6 none in
    let read = among (back / 2 ^ 32) 9 11 nor in
    let later = past (read 9 tt tt) (past (read 10 tt tt) (past (read 9 tt tt) (past (read 11 tt tt) (here few)))) in
    let way = past (no 2 tt tt) (past (no 3 tt tt) (past (no 4 tt tt) (past (no 5 tt tt) (past (no 6 tt tt) later)))) in
    alone back 0 (verify.refusal g) v (λ f. refl) Blocks (e ∙ reached (back / 2 ^ 32) Blocks (verify.checks l1 g) way (v.upper ∙ ap code e))

-- ---- a message of 1,048,577 bytes

-- what a message of n bytes does to what the checks of a call come to
record MessageChecked (n : ℕ) (c : Checked) : Type 0 where
  pub long : message_out n ≡ true → ((k : ℕ) → 1 ≤ k → k ≤ 3 → ¬ (code c ≡ k)) → c ≡ Err Message
  pub taken : message_out n ≡ false → ¬ (code c ≡ 4)

-- 1 stands before it
no_set : (n : ℕ) → MessageChecked n (Err NoSet)
no_set n = record { long = λ e none. absurd (none 1 (lit≤ tt) (lit≤ tt) refl); taken = λ e a. omega arith }

-- 2 and 3 do, and no check behind it gives 4
behind-keys : (n : ℕ) (tables keys : Bool) (ks : List Check) → raised 4 ks ≡ false
    → MessageChecked n (first (when tables Table ∷ when keys Key ∷ when (message_out n) Message ∷ ks))
unfolding raised
behind-keys n tables keys ks d =
    record {
      long = λ e none. reached _ Message _ (past (none 2 (lit≤ tt) (lit≤ tt)) (past (none 3 (lit≤ tt) (lit≤ tt)) (here e))) refl;
      taken = λ e. not_raised 3 (when tables Table ∷ when keys Key ∷ when (message_out n) Message ∷ ks) (rw (e, d));
    }

-- the example, in the number that a host sees
example : (n back written : ℕ) (r : Checked) → Halves back r written → (fine r ≡ false → written ≡ 0) → MessageChecked n r → MessageExample n back
unfolding message_out
example n back written r v z c =
    record {
      long = λ e none. alone back written r v z Message (c.long (rw e) (λ k a b x. none k a b (v.upper ∙ x)));
      taken = λ e a. ⊎_elim (λ (x : n ≡ 1048576). c.taken (rw x) (sym v.upper ∙ a)) (λ (x : n ≡ 1). c.taken (rw x) (sym v.upper ∙ a)) e;
    }

-- deriving seeds: no table is checked
seeds_checked : (c : Option Set) (secret public message : Bytes) (n : ℕ) → MessageChecked (length message) (refusal_of (seeded c secret public message n))
unfolding seeded with_set seeds_checks first raised
seeds_checked None secret public message n = no_set (length message)
seeds_checked (Some p) secret public message n =
    rw (unless-refusal (seeds_checks p (length secret) (length public) (length message) n) (derived_seeds p secret message public))
    (behind-keys (length message) false (keys_other p (length secret) (length public)) (when (too_short (seeds_length p) n) Room ∷ []) refl)

-- signing
sign_checked : (c : Option Set) (g : sign.Given) → MessageChecked (length g.message) (sign.refusal_for c g)
unfolding sign.refusal_for sign.checks sign.length_checks raised
sign_checked None g = no_set (length g.message)
sign_checked (Some p) g = behind-keys (length g.message) _ _ _ refl

-- verifying
verify_checked : (c : Option Set) (g : verify.Given) → MessageChecked (length g.message) (verify.refusal_for c g)
unfolding verify.refusal_for verify.checks verify.length_checks read_checks verify.verdict_checks raised
verify_checked None g = no_set (length g.message)
verify_checked (Some p) g = behind-keys (length g.message) _ _ _ refl

pub message_examples : MessageExamples
message_examples =
    record {
      seeds = λ k secret public message before back after s.
          example (length message) back _ _ (every_answer_has_halves.seeds k secret public message before back after s)
          (outcome_writes (seeded (numbered k) secret public message (length before)))
          (seeds_checked (numbered k) secret public message (length before));
      sign = λ g back room output s.
          example (length g.message) back _ _ (sign_halves g back room output s) (sign-writes g) (sign_checked (numbered g.set_number) g);
      verify = λ g back room s.
          example (length g.message) back 0 _ (verify_halves g back room s) (λ f. refl) (verify_checked (numbered g.set_number) g);
    }
