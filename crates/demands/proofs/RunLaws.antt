-- Two unpacked forms from which one input of the challenge is recomputed: salt, output shares and commitments are the same.
use mathlib.Core.Path.{◌≡◌, refl, sym, ◌∙◌}
use Prim.Native.Nat.{ℕ, ◌+◌, ◌<◌}
use native.Mathlib.Omega.{arith}
use lib.ListN.{length, length-append}
use Rattle.slices.specs.Slices.{Bytes}
use Rattle.sets.specs.declared.Set.{Set}
use Rattle.sets.specs.Sets.{IsSet}
use Rattle.sets.specs.Lengths.{w, seed_width, transcript_length, salt_length, unpacked_length}
use Rattle.circuit.specs.Lowmc.{Cipher}
use Rattle.circuit.specs.Round.{Party}
use Rattle.shape.specs.Form.{Sized, salt_in, slot_at, shown_in}
use Rattle.shape.proofs.PartLaws.{length_part}
use Rattle.shape.proofs.FormLaws.{slot-within}
use Rattle.views.specs.Input.{by_round, filling, challenge_input, opened_outputs, opened_commitments, verifier_filling}
use Rattle.room.proofs.LengthLaws.{recomputed-output, recomputed-commitment}
use Rattle.demands.proofs.JoinedLaws.{front, back, Alike, length-by_round, same_by_round}

module _ (p : Set) (x : Bytes) (h : length x ≡ unpacked_length p) where
  length_salt : length (salt_in p x) ≡ salt_length
  length_salt = length_part x p.t salt_length (omega arith)

  -- what a form shows of a round has its lengths
  pub sized_in : (k : ℕ) → k < p.t → Sized p (shown_in p x k)
  unfolding shown_in
  sized_in k l =
      let a = slot_at p k in
      let b = a + p.digest in
      let c = b + transcript_length p in
      let d = c + seed_width p in
      let i = slot-within p k l in
      record {
        commitment = length_part x a p.digest (omega arith);
        transcript = length_part x b (transcript_length p) (omega arith);
        seed1 = length_part x c (seed_width p) (omega arith);
        seed2 = length_part x d (seed_width p) (omega arith);
        share = length_part x (d + seed_width p) (w p) (omega arith);
      }

module _ {p : Set} (q : IsSet p) (C : Cipher) (public message x y : Bytes) (hx : length x ≡ unpacked_length p)
    (hy : length y ≡ unpacked_length p)
    (e : challenge_input (verifier_filling p C public x) (salt_in p x) public message
    ≡ challenge_input (verifier_filling p C public y) (salt_in p y) public message) where
  abbrev outs : Bytes → ℕ → Party → Bytes
  outs = opened_outputs p C public

  abbrev comms : Bytes → ℕ → Party → Bytes
  comms = opened_commitments p C public

  outputs_alike : Alike p.t (outs x) (outs y)
  outputs_alike i l j = recomputed-output p C _ i _ _ _ _ j ∙ sym (recomputed-output p C _ i _ _ _ _ j)

  commitments_alike : Alike p.t (comms x) (comms y)
  commitments_alike i l j =
      recomputed-commitment p C _ i _ _ _ _ q (sized_in p x hx i l).commitment j
      ∙ sym (recomputed-commitment p C _ i _ _ _ _ q (sized_in p y hy i l).commitment j)

  fillings_alike : length (verifier_filling p C public x) ≡ length (verifier_filling p C public y)
  unfolding verifier_filling filling
  fillings_alike =
      omega (
        arith,
        length-append (by_round p.t (outs x)) (by_round p.t (comms x)),
        length-append (by_round p.t (outs y)) (by_round p.t (comms y)),
        length-by_round (outs x) (outs y) p.t outputs_alike,
        length-by_round (comms x) (comms y) p.t commitments_alike,
      )

  fillings_same : verifier_filling p C public x ≡ verifier_filling p C public y
  unfolding challenge_input
  fillings_same = front (verifier_filling p C public x) (verifier_filling p C public y) _ _ fillings_alike e

  -- the salt is one
  pub salts_same : salt_in p x ≡ salt_in p y
  unfolding challenge_input
  salts_same =
      front (salt_in p x) (salt_in p y) message message
      (length_salt p x hx ∙ sym (length_salt p y hy))
      (back public public _ _ refl
      (back (verifier_filling p C public x) (verifier_filling p C public y) _ _ fillings_alike e))

  -- and so is each output share
  pub outputs_same : (i : ℕ) → i < p.t → (j : Party) → outs x i j ≡ outs y i j
  unfolding verifier_filling filling
  outputs_same =
      same_by_round (outs x) (outs y) p.t outputs_alike
      (front (by_round p.t (outs x)) (by_round p.t (outs y)) _ _ (length-by_round (outs x) (outs y) p.t outputs_alike) fillings_same)

  -- and each commitment
  pub commitments_same : (i : ℕ) → i < p.t → (j : Party) → comms x i j ≡ comms y i j
  unfolding verifier_filling filling
  commitments_same =
      same_by_round (comms x) (comms y) p.t commitments_alike
      (back (by_round p.t (outs x)) (by_round p.t (outs y)) _ _ (length-by_round (outs x) (outs y) p.t outputs_alike) fillings_same)
