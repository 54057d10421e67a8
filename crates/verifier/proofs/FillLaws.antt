-- Laws of the rounds that a signature shows: their parts in place, and what is recomputed from them as the definitions have it.
use mathlib.Core.Path.{◌≡◌, refl, sym, ap, ◌∙◌, subst}
use mathlib.Core.Bool.{Bool, true, false}
use Prim.Native.Nat.{ℕ, ◌+◌, ◌-◌, ◌*◌, ◌≤◌, ◌<◌}
use native.Mathlib.Omega.{arith}
use lib.Dec.{eqb}
use borrow.Author.Tests.{eqb-true, eqb-false}
use lib.ListN.{length, take, drop, get_or, length-drop}
use lib.Bits.{bit_or, bit_xor}
use lib.Seq.{length-take-le}
use Rattle.slices.specs.Slices.{Bytes, part, over, equal}
use Rattle.slices.proofs.EqualLaws.{equal-more, equal-all}
use Rattle.bits.specs.Bytes.{width}
use Rattle.sets.specs.declared.Set.{Set}
use Rattle.sets.specs.Sets.{IsSet}
use Rattle.sets.specs.Lengths.{w, salt_length, header_length, room_length}
use Rattle.answers.specs.Answers.{Fine, first}
use Rattle.circuit.specs.Lowmc.{Cipher}
use Rattle.circuit.specs.Round.{Party, party0}
use Rattle.lowmc.specs.Encrypted.{plaintext, ciphertext}
use Rattle.shape.specs.Header.{value_at, values}
use Rattle.shape.specs.Form.{Shown, form, values_in, salt_in, shown_in}
use Rattle.shape.specs.Reading.{read_checks}
use Rattle.shape.proofs.HeaderLaws.{length-values, get_d_values}
use Rattle.shape.proofs.ReadingLaws.{sound}
use Rattle.shape.proofs.RoundTripsProof.{are_values, values_of_form}
use Rattle.shape.proofs.RoundsLaws.{sizes_zero, sizes-other}
use Rattle.shape.proofs.ShownLaws.{salt_in_place}
use Rattle.parts.specs.declared.Here.{Here}
use Rattle.parts.specs.declared.Parts.{Parts}
use Rattle.parts.specs.Places.{parts_at, Located, showing}
use Rattle.views.specs.Parties.{party_of, three}
use Rattle.views.specs.Opened.{opening, recomputed_transcript, recomputed_outputs, recomputed_commitments}
use Rattle.views.specs.Input.{opened_outputs, opened_commitments, filling}
use Rattle.room.specs.Room.{with_round}
use Rattle.room.proofs.RoomLaws.{sizes}
use Rattle.room.proofs.LengthLaws.{length_three, recomputed-output, recomputed-commitment}
use Rattle.room.proofs.HeldLaws.{Held, held_more, held_all, length-filling}

-- ---- the parts of a round in place

module _ {p : Set} (i : IsSet p) (s : Bytes) (t : ℕ) (l : t < p.t) (c : first (read_checks p s) ≡ Fine) (r : Here) (g : Located p s t r) where
  -- its value is 0, 1 or 2
  pub value-small : r.value < 3
  value-small = rw g.value (are_values (values p s) (sound p s c).valued t)

  long : (a b : ℕ) → a ≤ b → b ≤ length s → length (part s a (b - a)) ≡ b - a
  long a b h k = length-take-le (b - a) (drop a s) (omega (arith, length-drop a s))

  abbrev q : Parts
  q = r.parts

  placed : {A : Type 0} (f : Parts → A) → f q ≡ f (parts_at p r.value q.commitment)
  placed f = let e = g.placed in ap f e ∙ ap (λ (k : ℕ). f (parts_at p r.value k)) (sym (ap (λ (x : Parts). x.commitment) e))

  pub commitment-long : length (part s q.commitment (q.transcript - q.commitment)) ≡ p.digest
  commitment-long =
      let o = g.ordered in
      omega (
        arith,
        long q.commitment q.transcript o.commitment (omega (arith, o.transcript, o.seed1, o.seed2, o.share, o.next)),
        placed (λ (x : Parts). x.transcript),
      )

  share-length : length (part s q.share (q.next - q.share)) ≡ q.next - q.share
  share-length = long q.share q.next g.ordered.share g.ordered.next

  pub share-long : (r.value ≡ 0 → ⊥) → length (part s q.share (q.next - q.share)) ≡ w p
  share-long z =
      omega (arith, share-length, placed (λ (x : Parts). x.share), placed (λ (x : Parts). x.next), sizes-other p r.value z)

  pub share-small : length (part s q.share (q.next - q.share)) ≤ 32
  share-small = go (eqb r.value 0) refl
    where
      go : (b : Bool) → eqb r.value 0 ≡ b → length (part s q.share (q.next - q.share)) ≤ 32
      go true e =
          omega (
            arith,
            share-length,
            placed (λ (x : Parts). x.share),
            placed (λ (x : Parts). x.next),
            sizes_zero p r.value (eqb-true r.value 0 e),
          )
      go false e = omega (arith, share-long (eqb-false r.value 0 e), (sizes i).width)

  pub salt_end : header_length p + salt_length ≤ length s
  salt_end = (sound p s c).long

-- ---- what is shown, by its parts

-- where the value is 0 the share is not asked for
alike : {X : Type 0} (F : Party → Shown → X) → ((u : Shown) (f : Bytes) → F party0 (showing u.commitment u.transcript u.seed1 u.seed2 f) ≡ F party0 u)
    → (e : ℕ) (a b c d f : Bytes) (v : Shown) → a ≡ v.commitment → b ≡ v.transcript → c ≡ v.seed1 → d ≡ v.seed2 → ((e ≡ 0 → ⊥) → f ≡ v.share)
    → F (party_of e) (showing a b c d f) ≡ F (party_of e) v
alike F ign e a b c d f v ea eb ec ed ef = go (eqb e 0) refl
  where
    go : (z : Bool) → eqb e 0 ≡ z → F (party_of e) (showing a b c d f) ≡ F (party_of e) v
    go true z = rw z ((λ i. F party0 (showing (ea i) (eb i) (ec i) (ed i) f)) ∙ ign v f)
    go false z = λ i. F (party_of e) (showing (ea i) (eb i) (ec i) (ed i) (ef (eqb-false e 0 z) i))

module _ (p : Set) (C : Cipher) (sa : Bytes) (t : ℕ) (block cipher : Bytes) where
  no_share : (u : Shown) (f : Bytes)
      → recomputed_outputs p C sa t party0 (showing u.commitment u.transcript u.seed1 u.seed2 f) block cipher
      ≡ recomputed_outputs p C sa t party0 u block cipher
  unfolding recomputed_outputs opening
  no_share u f = refl

  no_share_committed : (u : Shown) (f : Bytes)
      → recomputed_commitments p C sa t party0 (showing u.commitment u.transcript u.seed1 u.seed2 f) block cipher
      ≡ recomputed_commitments p C sa t party0 u block cipher
  unfolding recomputed_commitments recomputed_transcript recomputed_outputs opening
  no_share_committed u f = refl

-- ---- lengths

module _ {p : Set} (i : IsSet p) (C : Cipher) (sa : Bytes) (t : ℕ) (e : Party) (u : Shown) (block cipher : Bytes) where
  length-outputs : length (three (recomputed_outputs p C sa t e u block cipher)) ≡ 3 * width C.n
  length-outputs = length_three (recomputed_outputs p C sa t e u block cipher) (width C.n) (recomputed-output p C sa t e u block cipher)

  length-commitments : length u.commitment ≡ p.digest → length (three (recomputed_commitments p C sa t e u block cipher)) ≡ 3 * p.digest
  length-commitments h =
      length_three (recomputed_commitments p C sa t e u block cipher) p.digest (recomputed-commitment p C sa t e u block cipher i h)

-- ---- a round as the definitions have it, read off the unpacked form

module _ {p : Set} (i : IsSet p) (C : Cipher) (public s : Bytes) (t : ℕ) (l : t < p.t) (c : first (read_checks p s) ≡ Fine) (r : Here) (g : Located p s t r) where
  abbrev z : Parts
  z = r.parts

  abbrev in_place : Shown
  in_place =
      showing (part s z.commitment (z.transcript - z.commitment)) (part s z.transcript (z.seed1 - z.transcript))
      (part s z.seed1 (z.seed2 - z.seed1)) (part s z.seed2 (z.share - z.seed2)) (part s z.share (z.next - z.share))

  -- the party that is opened first
  opened_first : party_of r.value ≡ party_of (get_or (values_in p (form p s)) t 0)
  opened_first = ap party_of (g.value ∙ ap (λ (vs : Bytes). get_or vs t 0) (sym (values_of_form p s (sound p s c).exact)))

  -- the salt in its place
  module _ {salt : Bytes} (e : salt ≡ part s (header_length p) salt_length) where
    salt_as : salt ≡ salt_in p (form p s)
    salt_as = e ∙ sym (salt_in_place p s (sound p s c).exact)

    pub outputs_as : recomputed_outputs p C salt t (party_of r.value) in_place (plaintext p public) (ciphertext p public)
        ≡ opened_outputs p C public (form p s) t
    outputs_as =
        alike (λ (j : Party) (u : Shown). recomputed_outputs p C salt t j u (plaintext p public) (ciphertext p public))
        (no_share p C salt t (plaintext p public) (ciphertext p public)) r.value _ _ _ _ _ (shown_in p (form p s) t)
        g.commitment g.transcript g.seed1 g.seed2 g.share
        ∙ λ k. recomputed_outputs p C (salt_as k) t (opened_first k) (shown_in p (form p s) t) (plaintext p public) (ciphertext p public)

    pub commitments-as :
        recomputed_commitments p C salt t (party_of r.value) in_place (plaintext p public) (ciphertext p public)
        ≡ opened_commitments p C public (form p s) t
    commitments-as =
        alike (λ (j : Party) (u : Shown). recomputed_commitments p C salt t j u (plaintext p public) (ciphertext p public))
        (no_share_committed p C salt t (plaintext p public) (ciphertext p public)) r.value _ _ _ _ _ (shown_in p (form p s) t)
        g.commitment g.transcript g.seed1 g.seed2 g.share
        ∙ λ k. recomputed_commitments p C (salt_as k) t (opened_first k) (shown_in p (form p s) t) (plaintext p public) (ciphertext p public)

  -- the lengths of what goes into the room
  pub outputs-long : length (three (opened_outputs p C public (form p s) t)) ≡ 3 * width C.n
  outputs-long = length-outputs i C (salt_in p (form p s)) t _ (shown_in p (form p s) t) (plaintext p public) (ciphertext p public)

  pub commitments-long : length (three (opened_commitments p C public (form p s) t)) ≡ 3 * p.digest
  commitments-long =
      length-commitments i C (salt_in p (form p s)) t _ (shown_in p (form p s) t) (plaintext p public) (ciphertext p public)
      (sym (ap length g.commitment) ∙ commitment-long i s t l c r g)

-- ---- the header's values compared

-- one value more
pub agree_more : (p : Set) (found s : Bytes) (d k v : ℕ) → k < p.t → length found ≡ p.t → v ≡ value_at s k
    → eqb d 0 ≡ equal (take k found) (take k (values p s))
    → eqb (bit_or d (bit_xor (get_or found k 0) v)) 0 ≡ equal (take (k + 1) found) (take (k + 1) (values p s))
agree_more p found s d k v h l e q =
    ap (λ (x : ℕ). eqb (bit_or d (bit_xor (get_or found k 0) x)) 0) (e ∙ sym (get_d_values p s k h))
    ∙ equal-more found (values p s) d k (omega arith) (omega (arith, length-values p s)) q

-- all of them
pub agree_all : (p : Set) (found s : Bytes) (d k : ℕ) → p.t ≤ k → length found ≡ p.t → eqb d 0 ≡ equal (take k found) (take k (values p s))
    → eqb d 0 ≡ equal found (values p s)
agree_all p found s d k h l q = equal-all found (values p s) d k (omega arith) (omega (arith, length-values p s)) q

-- a header's places
pub value-within : (p : Set) (k n : ℕ) → k < p.t → header_length p ≤ n → k < 4 * n
unfolding width
value-within p k n h l = omega arith

-- ---- the rounds one after the other

-- what is found at a cursor is what is found at its round
pub located_at : (p : Set) (s : Bytes) (k t : ℕ) (r : Here) → k ≡ t → Located p s k r → Located p s t r
located_at p s k t r e g = rw (← e) g

module _ {p : Set} (i : IsSet p) (o c : ℕ → Party → Bytes) (r₀ : Bytes) (t : ℕ) (r : Bytes) where
  -- the room with one round more
  pub held_step : {r' : Bytes} → t < p.t → room_length p ≤ length r₀ → length (three (o t)) ≡ 3 * w p → length (three (c t)) ≡ 3 * p.digest
      → Held p t o c r₀ r → r' ≡ with_round p t (three (o t)) (three (c t)) r → Held p (t + 1) o c r₀ r'
  held_step l e lo lc g q = rw q (held_more i o c r₀ t r l e lo lc g)

  -- the room with all of them
  pub held_filled : t ≡ p.t → room_length p ≤ length r₀ → Held p t o c r₀ r → (r ≡ over (filling p o c) r₀) × (length (filling p o c) ≡ room_length p)
  held_filled d e g =
      let f = subst (λ (k : ℕ). Held p k o c r₀ r) d g in
      (held_all i o c r₀ r e f, length-filling i o c r₀ r e f)
