-- What fills the room has exactly the needed bytes.
use mathlib.Core.Path.{◌≡◌}
use Prim.Native.Nat.{ℕ, ◌*◌, ◌<◌}
use native.Mathlib.Omega.{arith}
use lib.ListN.{length, length-append}
use Rattle.slices.specs.Slices.{Bytes}
use Rattle.bits.proofs.BytesLaws.{length-bytes_of}
use Rattle.sets.specs.declared.Set.{Set}
use Rattle.sets.specs.Sets.{IsSet}
use Rattle.sets.specs.Lengths.{w, room_length}
use Rattle.circuit.specs.Round.{Party}
use Rattle.hashing.specs.Hashing.{commitment}
use Rattle.hashing.proofs.HashingLaws.{length-h}
use Rattle.shape.specs.Form.{slot_at, shown_in}
use Rattle.shape.proofs.PartLaws.{length_part, length_of_joined}
use Rattle.shape.proofs.FormLaws.{slot-within}
use Rattle.views.specs.Parties.{three}
use Rattle.views.specs.Signed.{outputs, commitments}
use Rattle.views.specs.Input.{by_round, filling, signer_filling, verifier_filling}
use Rattle.room.specs.Filled.{SignerFills, VerifierFills}
use Rattle.room.proofs.RoomLaws.{sizes}
use Rattle.room.proofs.LengthLaws.{length_three, recomputed-output, recomputed-commitment}

-- a thing of n bytes of each party in each of k rounds
by_round_lem : (k n : ℕ) (f : ℕ → Party → Bytes) → ((t : ℕ) → t < k → (j : Party) → length (f t j) ≡ n) → length (by_round k f) ≡ k * (3 * n)
unfolding by_round
by_round_lem k n f h = length_of_joined (3 * n) (λ t. three (f t)) k (λ t l. length_three (f t) n (h t l))

-- output shares and commitments of their lengths
filled : {p : Set} → IsSet p → (f g : ℕ → Party → Bytes) → ((t : ℕ) → t < p.t → (j : Party) → length (f t j) ≡ w p)
    → ((t : ℕ) → t < p.t → (j : Party) → length (g t j) ≡ p.digest) → length (filling p f g) ≡ room_length p
unfolding filling
filled {p} q f g a b =
    omega (
      arith,
      length-append (by_round p.t f) (by_round p.t g),
      by_round_lem p.t (w p) f a,
      by_round_lem p.t p.digest g b,
      (sizes q).room,
    )

pub signer_fills : SignerFills
unfolding SignerFills signer_filling outputs commitments commitment
signer_fills p q keys layers constants secret public seeds =
    filled q _ _ (λ t l j. length-bytes_of p.n _) (λ t l j. length-h q 0 _)

pub verifier_fills : VerifierFills
unfolding VerifierFills verifier_filling shown_in
verifier_fills p q keys layers constants public x e =
    filled q _ _ (λ t l j. recomputed-output p _ _ t _ _ _ _ j)
    (λ t l j. recomputed-commitment p _ _ t _ _ _ _ q (length_part x (slot_at p t) p.digest (omega (arith, slot-within p t l))) j)
