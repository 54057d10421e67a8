-- The halves of what signing and verifying answer: a signature is at most the longest.
use mathlib.Core.Path.{◌≡◌, refl}
use mathlib.Core.Bool.{Bool, true, false, cond}
use mathlib.Core.List.{[]}
use Prim.Native.Nat.{ℕ, ◌^◌, ◌≤◌, ◌<◌}
use native.Mathlib.Omega.{arith}
use lib.ListN.{length}
use Rattle.std.proofs.Common.{Some}
use Rattle.slices.specs.Slices.{Bytes}
use Rattle.sets.specs.declared.Set.{Set}
use Rattle.sets.specs.Sets.{numbered}
use Rattle.sets.specs.Lengths.{longest}
use Rattle.sets.proofs.Each.{known_set}
use Rattle.answers.specs.Answers.{Fine, fine, Halves}
use Rattle.answers.proofs.AnswersLaws.{fine_is, halves_of}
use Rattle.challenge.specs.Blocks.{first_values}
use Rattle.challenge.proofs.BlocksLaws.{length-first, first_small}
use Rattle.shape.specs.Header.{values}
use Rattle.shape.proofs.HeaderLaws.{length-values}
use Rattle.shape.proofs.ReadingLaws.{sound}
use Rattle.shape.proofs.RoundsLaws.{signature-most}
use Rattle.shape.proofs.SetFacts.{longest≤}
use Rattle.signer.specs.Sign as sign
use Rattle.verifier.specs.Verify as verify
use Rattle.demands.specs.Halves.{SignedIsNoLonger}
use Rattle.demands.proofs.SigningLaws.{made, Passed, passed}
use Rattle.demands.proofs.HonestRunsProof.{reread}

-- no signature is longer than the longest
pub signed_most : (p : Set) (g : sign.Given) → numbered g.set_number ≡ Some p → Passed p g → length (sign.signature_of p g) ≤ longest p
unfolding sign.signature_of
signed_most p g e s =
    let b = sign.first_block p g in
    let es = first_values p b g.limit in
    let signature = sign.signature_for p (sign.cipher p g) g.secret g.public g.seeds es in
    let again =
    reread (known_set g.set_number p e) g.keys g.layers g.constants g.secret g.public g.seeds g.message es s.pair
    s.seeds (length-first p b g.limit s.enough) (first_small p b g.limit) in
    omega (arith, (sound p signature again.read).exact, signature-most p (values p signature) (length-values p signature))

pub signed_is_no_longer : SignedIsNoLonger
unfolding SignedIsNoLonger sign.written sign.signature_by sign.refusal_for
signed_is_no_longer g p e = go (fine (sign.refusal g)) refl
  where
    go : (b : Bool) → fine (sign.refusal g) ≡ b → length (cond b (sign.signature_by (numbered g.set_number) g) []) ≤ longest p
    go true f =
        let none : sign.refusal_for (Some p) g ≡ Fine = rw e at (fine_is (sign.refusal g) f) in
        rw e (signed_most p g e (passed p g none))
    go false f = omega arith

-- and far shorter than 2^32
written_small : (g : sign.Given) → length (sign.written g) < 2 ^ 32
unfolding sign.written sign.signature_by
written_small g = go (fine (sign.refusal g)) refl
  where
    go : (b : Bool) → fine (sign.refusal g) ≡ b → length (cond b (sign.signature_by (numbered g.set_number) g) []) < 2 ^ 32
    go true f =
        let m = made g (fine_is (sign.refusal g) f) in
        let most = signed_most m.p g m.known (passed m.p g m.none) in
        rw m.known (omega (arith, most, longest≤ (known_set g.set_number m.p m.known)))
    go false f = omega arith

-- signing writes nothing on a refusal
pub sign-writes : (g : sign.Given) → fine (sign.refusal g) ≡ false → length (sign.written g) ≡ 0
unfolding sign.written
sign-writes g f = rw f

-- signing
pub sign_halves : (g : sign.Given) (back : ℕ) (room output : Bytes) → sign.Signed g back room output
    → Halves back (sign.refusal g) (length (sign.written g))
sign_halves g back room output s = rw s.answered (halves_of (sign.refusal g) (length (sign.written g)) (written_small g))

-- verifying, which writes nothing
pub verify_halves : (g : verify.Given) (back : ℕ) (room : Bytes) → verify.Verified g back room → Halves back (verify.refusal g) 0
verify_halves g back room v = rw v.answered (halves_of (verify.refusal g) 0 (omega arith))
