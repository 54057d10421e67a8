-- Demand 3, first half: what signing writes, verifying accepts.
use Rattle.std.specs.Prelude.{◌≡◌, ℕ, ◌^◌, ◌≤◌, ◌<◌, length, take, Some}
use Rattle.answers.specs.Answers.{Fine}
use Rattle.slices.specs.Slices.{Bytes}
use Rattle.sets.specs.declared.Set.{Set}
use Rattle.sets.specs.Sets.{numbered}
use Rattle.sets.specs.Lengths.{room_length}
use Rattle.signer.specs.Sign as sign
use Rattle.verifier.specs.Verify as verify

-- the same set, tables, public key and message; any limit, room and signature
abbrev pub again : sign.Given → (limit : ℕ) (room signature : Bytes) → verify.Given
again g limit room signature =
    record {
      set_number = g.set_number;
      keys = g.keys;
      layers = g.layers;
      constants = g.constants;
      public = g.public;
      message = g.message;
      limit = limit;
      room = room;
      signature = signature;
    }

-- a legal limit that is no smaller, and a room that suffices
pub record Enough (g : sign.Given) (limit : ℕ) (room : Bytes) : Type 0 where
  pub more : g.limit ≤ limit
  pub legal : limit ≤ 64
  pub suffices : (set : Set) → numbered g.set_number ≡ Some set → room_length set ≤ length room

-- where signing refuses nothing, verifying refuses nothing: of the output, as many bytes as were answered
unfoldable pub SignedIsAccepted : Type 0
SignedIsAccepted =
    (g : sign.Given) (back : ℕ) (room output : Bytes) → sign.Signed g back room output → sign.refusal g ≡ Fine
    → (limit : ℕ) (other : Bytes) → Enough g limit other → verify.refusal (again g limit other (take back output)) ≡ Fine

-- the same in the numbers that a host sees: signing answers a length alone, then verifying answers 0
unfoldable pub VerifyingAnswersZero : Type 0
VerifyingAnswersZero =
    (g : sign.Given) (back : ℕ) (room output : Bytes) → sign.Signed g back room output → back < 2 ^ 32
    → (limit : ℕ) (other : Bytes) → Enough g limit other
    → (n : ℕ) (left : Bytes) → verify.Verified (again g limit other (take back output)) n left → n ≡ 0
