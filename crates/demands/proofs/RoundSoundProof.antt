-- Demand 3, second half: a secret key from three openings of one round, or a collision among what they hash.
use mathlib.Core.Path.{◌≡◌, sym, ap, ◌∙◌}
use mathlib.Core.Logic.{inl}
use mathlib.Core.List.Memᴰ
use mathlib.Core.List.{List, ◌++◌, Memᴰ}
use Prim.Native.Nat.{ℕ, ◌*◌}
use native.Mathlib.Omega.{arith}
use Rattle.slices.specs.Slices.{Bytes}
use Rattle.bits.specs.Bits.{Bits, Agree}
use Rattle.bits.specs.Bytes.{bits_of, bytes_of, Packed}
use Rattle.bits.proofs.BitsLaws.{up_to_in}
use Rattle.bits.proofs.BytesLaws.{length-bytes_of, bytes_of_cong, bits_of_bytes_of, packed, packed-bytes}
use Rattle.sets.specs.declared.Set.{Set}
use Rattle.sets.specs.Sets.{IsSet}
use Rattle.sets.specs.Lengths.{w}
use Rattle.circuit.specs.Lowmc.{Cipher}
use Rattle.circuit.specs.Round.{Party, party0, party1, party2, next, third}
use Rattle.circuit.specs.RoundTheorems.{xor3, Agreeing, OpeningsYieldKey}
use Rattle.circuit.specs.Tapes.{gate_bits, tape_rows}
use Rattle.circuit.proofs.LowmcLaws.{encryption_cong}
use Rattle.circuit.proofs.OpeningLaws.{openings_yield_key}
use Rattle.lowmc.specs.Lent.{cipher_of}
use Rattle.lowmc.specs.Encrypted.{encrypted, ciphertext, plaintext}
use Rattle.shape.specs.Form.{Shown}
use Rattle.shape.proofs.PaddingLaws.{padded-whole, padded-packed, bytes-part}
use Rattle.shape.proofs.SetFacts.{shares_whole}
use Rattle.views.specs.Signed.{tape_of}
use Rattle.views.specs.Opened.{share₁, share₂, opening, recomputed_transcript, recomputed_outputs, recomputed_commitments}
use Rattle.views.proofs.PartiesLaws.{at_first, at_second, at_third}
use Rattle.views.proofs.BytesOfRows.{rows_of_bytes}
use Rattle.demands.specs.Hashed.{Hashed, hashed_by, hashed_by_three}
use Rattle.demands.specs.Sound.{SecretKey, extracted, Openings, KeyOrCollision, RoundSound, PublicKeysArePacked}
use Rattle.demands.proofs.OpenedLaws.{length-share, in_first, in_second}
use Rattle.demands.proofs.CollisionLaws.{Or, bind, SameView, same_view}

-- bits whose bytes are known
agree_of_bytes : (m : ℕ) (x : Bits) (l : Bytes) → bytes_of m x ≡ l → Agree m x (bits_of l)
agree_of_bytes m x l e i b =
    sym (up_to_in m x i b) ∙ (ap (λ (f : Bits). f i) (sym (bits_of_bytes_of m x)) ∙ ap (λ (s : Bytes). bits_of s i) e)

module _ (p : Set) (q : IsSet p) (keys layers constants public salt : Bytes) (t : ℕ) (u : Party → Shown) where
  abbrev C : Cipher
  C = cipher_of p keys layers constants

  abbrev block : Bytes
  block = plaintext p public

  abbrev cipher : Bytes
  cipher = ciphertext p public

  abbrev all : List Hashed
  all = hashed_by_three p C salt t block cipher u

  abbrev of : Party → List Hashed
  of e = hashed_by p C salt t block cipher e (u e)

  in_all : (e : Party) {k : Hashed} → Memᴰ k (of e) → Memᴰ k all
  unfolding hashed_by_three
  in_all party0 m = Memᴰ.append_left (of party1 ++ of party2) m
  in_all party1 m = Memᴰ.append_right (of party0) (Memᴰ.append_left (of party2) m)
  in_all party2 m = Memᴰ.append_right (of party0) (Memᴰ.append_right (of party1) m)

  module _ (a : Openings p keys layers constants public salt t u) where
    -- the party after j is opened first by its own number and second by j
    abbrev Twice : Party → Type 0
    Twice j = SameView (u (next j)).seed1 (u j).seed2
        (share₁ p C salt t (next j) (u (next j))) (share₂ p C salt t j (u j))
        (recomputed_transcript p C salt t (next j) (u (next j)) block cipher) (u j).transcript

    twice : (j : Party) → Or p all (Twice j)
    unfolding recomputed_commitments recomputed_transcript
    twice j =
        let k = next j in
        same_view p all q _ _ _ _ _ _ _ _
        (λ _ m. in_all k (in_first p C salt t k (u k) block cipher m)) (λ _ m. in_all j (in_second p C salt t j (u j) block cipher m))
        (length-share C k _ _ (a.sized k).share ∙ sym (length-share C k _ _ (a.sized j).share))
        (length-bytes_of (gate_bits C) _ ∙ sym (a.sized j).transcript)
        (sym (at_first k _ _ _) ∙ (a.same_commitments k j k ∙ at_second j _ _ _))

    agreeing : ((j : Party) → Twice j)
        → Agreeing C (bits_of block) (bits_of cipher) (λ e. opening p C salt t e (u e))
        (λ j. bits_of (recomputed_outputs p C salt t j (u j) block cipher j))
    unfolding opening recomputed_outputs recomputed_transcript
    agreeing s = record {
      share = λ j. ap bits_of (s j).share;
      tape = λ j. ap (λ (z : Bytes). tape_rows C (next j) (tape_of p C salt t (next j) z)) (s j).seed;
      transcript = λ j i l g b. sym (rows_of_bytes (3 * C.s) C.r _ _ (sym (s j).transcript) i l g b);
      output = λ j. agree_of_bytes C.n _ _ (sym (at_first j _ _ _));
      last = λ j. agree_of_bytes C.n _ _ (sym (at_third j _ _ _) ∙ a.same_outputs j (third j) (third j));
    }

    key : Packed p.n cipher → ((j : Party) → Twice j) → SecretKey p keys layers constants public (extracted p C salt t u)
    unfolding extracted encrypted opening OpeningsYieldKey
    key c s = record {
      packed = packed C.n _;
      encrypts =
          let xs = xor3 (λ e. bits_of (share₁ p C salt t e (u e))) in
          ap (bytes_of p.n)
          (encryption_cong C (bits_of (bytes_of C.n xs)) xs (bits_of block)
          (λ i b. ap (λ (f : Bits). f i) (bits_of_bytes_of C.n xs) ∙ up_to_in C.n xs i b))
          ∙ (bytes_of_cong p.n _ _ (openings_yield_key C (bits_of block) (bits_of cipher) _ _ (agreeing s)) ∙ packed-bytes p.n cipher c);
    }

    key_or_collision : Packed p.n cipher → KeyOrCollision p keys layers constants public salt t u
    key_or_collision c =
        bind p all (twice party0) λ x. bind p all (twice party1) λ y. bind p all (twice party2) λ z.
        inl (key c (elim [ party0 ↦ x | party1 ↦ y | party2 ↦ z ]))

pub round_sound : RoundSound
unfolding RoundSound
round_sound p q keys layers constants public c salt t u a = key_or_collision p q keys layers constants public salt t u a c

pub public-keys_are_packed : PublicKeysArePacked
unfolding PublicKeysArePacked
public-keys_are_packed p q public small l =
    padded-packed p.n public (padded-whole p.n (shares_whole q) public) (bytes-part public 0 (w p) small) (omega arith)
