-- Signing with a public key and with seeds that the library itself wrote.
use mathlib.Core.Path.{◌≡◌, refl, sym, ap, ◌∙◌}
use mathlib.Core.List.{List}
use Prim.Native.Nat.{ℕ, ◌^◌, ◌≤◌, ◌<◌}
use native.Mathlib.Omega.{arith}
use lib.ListN.{length, take}
use borrow.Author.Tests.{eq-eqb, le-ltb}
use Rattle.std.proofs.Common.{Option, Some, None}
use Rattle.slices.specs.Slices.{Bytes}
use Rattle.slices.proofs.EqualLaws.{equal_self}
use Rattle.sets.specs.declared.Set.{Set}
use Rattle.sets.specs.Sets.{numbered}
use Rattle.sets.specs.Lengths.{public_length, seeds_length, room_length, longest}
use Rattle.sets.proofs.Each.{known_set}
use Rattle.answers.specs.Answers.{code, Check}
use Rattle.answers.specs.Outcome.{unless, with_set, Promise}
use Rattle.answers.proofs.OutcomeLaws.{set_known, unless-given}
use Rattle.hashing.specs.Hashing.{derived_seeds}
use Rattle.hashing.specs.SeedsCall.{seeds_checks, seeded, SeedsPromise}
use Rattle.hashing.proofs.HashingLaws.{length_derived}
use Rattle.lowmc.specs.Encrypted.{encrypted, public_key, ciphertext, plaintext, HalvesOfPublicKey}
use Rattle.lowmc.specs.Calls.{lowmc_checks, public_key_outcome}
use Rattle.lowmc.proofs.EncryptedLaws.{halves_of_public_key}
use Rattle.signer.specs.Sign as sign
use Rattle.demands.specs.OwnInputs.{WrittenKeyHasHalves, WrittenKeyIsNeverRefused, WrittenSeedsAreNeverRefused}
use Rattle.demands.proofs.ReadAndWriteProof.{gave_bytes, unless_alone}
use Rattle.demands.proofs.FirstLaws.{raised, not_raised}
use Rattle.demands.proofs.SignHalves.{sign_halves}

-- where a call answers a length alone, as many bytes as it answered are those of the set
module _ (k : ℕ) (ks : Set → List Check) (vs : Set → Bytes) (before : Bytes) (back : ℕ) (after : Bytes)
    (s : Promise (with_set (numbered k) (λ q. unless (ks q) (vs q))) before back after) (l : back < 2 ^ 32) where
  set_gave : (p : Set) → numbered k ≡ Some p → take back after ≡ vs p
  set_gave p e =
      let t : Promise (unless (ks p) (vs p)) before back after = rw (set_known (numbered k) (λ q. unless (ks q) (vs q)) p e) at s in
      gave_bytes _ (vs p) before back after (unless-given (ks p) (vs p) (unless_alone (ks p) (vs p) before back after t l)) t

-- ---- a public key

pub written_key_has_halves : WrittenKeyHasHalves
unfolding WrittenKeyHasHalves HalvesOfPublicKey public_key_outcome
written_key_has_halves k keys layers constants secret block before back after s l p e =
    rw
    (set_gave k
    (λ q. lowmc_checks q (length keys) (length layers) (length constants) (length secret) (length block) (public_length q) (length before))
    (λ q. public_key q keys layers constants secret block) before back after s l p e)
    (halves_of_public_key p keys layers constants secret block)

-- where C is LowMC of p, no answer is 7
pair-taken : (c : Option Set) (g : sign.Given)
    → ((p : Set) → c ≡ Some p
    → encrypted p g.keys g.layers g.constants g.secret (plaintext p g.public) ≡ ciphertext p g.public)
    → ¬ (code (sign.refusal_for c g) ≡ 7)
unfolding sign.refusal_for sign.checks sign.length_checks raised
pair-taken None g h = λ a. omega arith
pair-taken (Some p) g h = not_raised 6 (sign.checks p g) (rw (h p refl, equal_self (ciphertext p g.public)))

pub written_key_is_never_refused : WrittenKeyIsNeverRefused
unfolding WrittenKeyIsNeverRefused WrittenKeyHasHalves
written_key_is_never_refused g block before back after s l e answer room output signed a =
    pair-taken (numbered g.set_number) g
    (λ p known.
    let (c, b) = written_key_has_halves g.set_number g.keys g.layers g.constants g.secret block before back after s l p known in
    ap (encrypted p g.keys g.layers g.constants g.secret) (ap (plaintext p) e ∙ b) ∙ sym (ap (ciphertext p) e ∙ c))
    (sym (sign_halves g answer room output signed).upper ∙ a)

-- ---- seeds

-- where seeds, room and output have their lengths, no answer is 6
room-taken : (c : Option Set) (g : sign.Given)
    → ((p : Set) → c ≡ Some p
    → (length g.seeds ≡ seeds_length p) × (room_length p ≤ length g.room) × (longest p ≤ length g.output))
    → ¬ (code (sign.refusal_for c g) ≡ 6)
unfolding sign.refusal_for sign.checks sign.length_checks raised
room-taken None g h = λ a. omega arith
room-taken (Some p) g h =
    let (s, r, o) = h p refl in
    not_raised 5 (sign.checks p g) (rw (eq-eqb _ _ s, le-ltb (length g.room) (room_length p) r, le-ltb (length g.output) (longest p) o))

-- written seeds have their length
written-seeds : (k : ℕ) (secret public message before : Bytes) (back : ℕ) (after : Bytes)
    → SeedsPromise k secret public message before back after → back < 2 ^ 32
    → (p : Set) → numbered k ≡ Some p → length (take back after) ≡ seeds_length p
unfolding seeded
written-seeds k secret public message before back after s l p e =
    rw
    (set_gave k (λ q. seeds_checks q (length secret) (length public) (length message) (length before))
    (λ q. derived_seeds q secret message public) before back after s l p e)
    (length_derived (known_set k p e) secret message public)

pub written-seeds_are_never_refused : WrittenSeedsAreNeverRefused
unfolding WrittenSeedsAreNeverRefused
written-seeds_are_never_refused g secret public message before back after s l e suffice answer room output signed a =
    room-taken (numbered g.set_number) g
    (λ p known.
    let (r, o) = suffice p known in
    (ap length e ∙ written-seeds g.set_number secret public message before back after s l p known, r, o))
    (sym (sign_halves g answer room output signed).upper ∙ a)
