-- Laws of a round that is played: what it has on words and in bytes.
use mathlib.Core.Path.{◌≡◌, refl, sym, ap, ◌∙◌, subst}
use mathlib.Core.Bool.{false}
use mathlib.Core.List.{List}
use Prim.Native.Nat.{ℕ, ◌*◌, ◌≤◌}
use native.Mathlib.Omega.{arith}
use lib.ListN.{length, take}
use Rattle.slices.specs.Slices.{Bytes}
use Rattle.bits.specs.Bits.{Bits, ◌⊻◌, ◌⊕◌}
use Rattle.bits.specs.Bytes.{bits_of, bytes_of, width}
use Rattle.bits.specs.Rows.{Rows, flat}
use Rattle.bits.proofs.BitsLaws.{up_to_out, up_to_is}
use Rattle.bits.proofs.BytesLaws.{bits_past, bits_of_bytes_of, length-bytes_of}
use Rattle.sets.specs.declared.Set.{Set}
use Rattle.sets.specs.Sets.{IsSet}
use Rattle.circuit.specs.Lowmc.{Cipher, state_after}
use Rattle.circuit.specs.Round.{Party, party0, party1, party2, by_party}
use Rattle.circuit.specs.Tapes.{gate_bits}
use Rattle.bits.specs.declared.Block.{Block}
use Rattle.round.specs.declared.View.{View}
use Rattle.round.specs.Engine.{share_in, said, Written, Traced, Simulated}
use Rattle.round.specs.Inputs.{input_share, tapes_of}
use Rattle.hashing.specs.Hashing.{commitment}
use Rattle.hashing.proofs.HashingLaws.{length-h}
use Rattle.views.specs.Parties.{three}
use Rattle.views.specs.Signed.{shares, share_bits, gate_rows, outputs, transcripts, tapes, commitments}
use Rattle.room.proofs.LengthLaws.{length_three}
use Rattle.signer.specs.declared.Played.{Played}
use Rattle.signer.specs.Played.{said_by, PlayedAs}

-- ---- input shares as bytes

-- input shares have no bits past n
past : (n : ℕ) (secret t0 t1 : Bytes) → 8 * length secret ≤ n → (j : Party) (i : ℕ) → n ≤ i → input_share n (bits_of secret) t0 t1 j i ≡ false
unfolding ◌⊕◌ ◌⊻◌
past n secret t0 t1 l party0 i b = up_to_out n (bits_of t0) i b
past n secret t0 t1 l party1 i b = up_to_out n (bits_of t1) i b
past n secret t0 t1 l party2 i b =
    λ k. bits_past secret i (omega arith) k ⊻ (up_to_out n (bits_of t0) i b k ⊻ up_to_out n (bits_of t1) i b k)

-- so their bytes hold them whole
kept : (n : ℕ) (secret t0 t1 : Bytes) → 8 * length secret ≤ n → (j : Party)
    → input_share n (bits_of secret) t0 t1 j ≡ bits_of (bytes_of n (input_share n (bits_of secret) t0 t1 j))
kept n secret t0 t1 l j = up_to_is n _ _ (λ i b. refl) (past n secret t0 t1 l j) ∙ sym (bits_of_bytes_of n _)

-- ---- a round over tapes

-- states of the same encryption
pub traced_as : (C : Cipher) (k k' b b' : Bits) (t : List Block) → k' ≡ k → b' ≡ b → Traced C k b t → Traced C k' b' t
traced_as C k k' b b' t ek eb h i l = h i l ∙ λ z. state_after C (sym ek z) (sym eb z) i

module _ (C : Cipher) (secret t0 t1 t2 : Bytes) (fits : 8 * length secret ≤ C.n) (x : List Block)
    (hx : (j : Party) → share_in x j ≡ input_share C.n (bits_of secret) t0 t1 j) where
  -- the shares on words are those in bytes
  share-bits : share_in x ≡ share_bits C secret (by_party t0 t1 t2)
  unfolding shares
  share-bits = λ k j. (hx j ∙ kept C.n secret t0 t1 fits j) k

  -- what a simulation leaves is the round in bytes: r has its shares, and the bytes of its transcripts
  pub played_as : (block : Bytes) (plain : Bits) → plain ≡ bits_of block → (v : View) → Simulated C plain (share_in x) (tapes_of C t0 t1 t2) v
      → (r : Played) → r.inputs ≡ x → r.outputs ≡ v.out
      → ((j : Party) (u : Rows) → Written (3 * C.s) C.r u (said v j) → take (width (gate_bits C)) (said_by r j) ≡ bytes_of (gate_bits C) (flat (3 * C.s) u))
      → PlayedAs C secret (by_party t0 t1 t2) block r
  unfolding shares outputs transcripts
  played_as block plain e v h r ei eo es =
      let s : Simulated C (bits_of block) (share_bits C secret (by_party t0 t1 t2)) (gate_rows C secret (by_party t0 t1 t2)) v =
      subst (λ (z : Party → Bits). Simulated C (bits_of block) z (tapes_of C t0 t1 t2) v) share-bits
      (subst (λ (b : Bits). Simulated C b (share_in x) (tapes_of C t0 t1 t2) v) e h) in
      record {
        inputs = λ j. ap (λ (z : List Block). bytes_of C.n (share_in z j)) ei ∙ ap (bytes_of C.n) (hx j);
        outputs = λ j. ap (λ (z : List Block). bytes_of C.n (share_in z j)) eo ∙ ap (bytes_of C.n) (s.outputs j);
        said = λ j. es j _ (s.transcripts j);
      }

-- the same tapes, party by party, and the same block
pub played_over : (C : Cipher) (secret t0 t1 t2 : Bytes) (tapes : Party → Bytes) (b block : Bytes) (r : Played)
    → t0 ≡ tapes party0 → t1 ≡ tapes party1 → t2 ≡ tapes party2 → b ≡ block
    → PlayedAs C secret (by_party t0 t1 t2) b r → PlayedAs C secret tapes block r
played_over C secret t0 t1 t2 tapes b block r e0 e1 e2 e h =
    subst (λ (x : Bytes). PlayedAs C secret tapes x r) e (subst (λ (t : Party → Bytes). PlayedAs C secret t b r) (λ k j. each_party j k) h)
  where
    each_party : (j : Party) → by_party t0 t1 t2 j ≡ tapes j
    each_party = elim [ party0 ↦ e0 | party1 ↦ e1 | party2 ↦ e2 ]

-- ---- commitments

-- what is hashed for party k of a round that is played, from its parts
pub commitment_as : (p : Set) (C : Cipher) (salt : Bytes) (t : ℕ) (seeds : Party → Bytes) (secret block : Bytes) (r : Played) (k : Party) {seed s : Bytes} {x y : Bits} {d : Bytes}
    → PlayedAs C secret (tapes p C salt t seeds) block r → seed ≡ seeds k → x ≡ share_in r.inputs k → s ≡ said_by r k → y ≡ share_in r.outputs k
    → d ≡ commitment p seed (bytes_of C.n x) (take (width (gate_bits C)) s) (bytes_of C.n y)
    → d ≡ commitments p C salt t seeds secret block k
unfolding commitments
commitment_as p C salt t seeds secret block r k h ed ex es ey e =
    e ∙ λ i. commitment p (ed i) ((ap (bytes_of C.n) ex ∙ h.inputs k) i) ((ap (take (width (gate_bits C))) es ∙ h.said k) i)
    ((ap (bytes_of C.n) ey ∙ h.outputs k) i)

pub length-outputs : (C : Cipher) (secret : Bytes) (tapes : Party → Bytes) (block : Bytes) → length (three (outputs C secret tapes block)) ≡ 3 * width C.n
unfolding outputs
length-outputs C secret tapes block = length_three (outputs C secret tapes block) (width C.n) (λ j. length-bytes_of C.n _)

pub length-commitments : {p : Set} → IsSet p → (C : Cipher) (salt : Bytes) (t : ℕ) (seeds : Party → Bytes) (secret block : Bytes)
    → length (three (commitments p C salt t seeds secret block)) ≡ 3 * p.digest
unfolding commitments commitment
length-commitments {p} i C salt t seeds secret block = length_three (commitments p C salt t seeds secret block) p.digest (λ j. length-h i 0 _)
