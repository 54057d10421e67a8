-- Laws of the signature that the signer writes: header and salt, then round by round, up to the whole.
use mathlib.Core.Path.{◌≡◌, sym, ap, ◌∙◌}
use mathlib.Core.List.{◌++◌, append_assoc}
use Prim.Native.Nat.{ℕ, ◌+◌, ◌*◌, ◌≤◌, ◌<◌}
use native.Mathlib.Omega.{arith}
use native.Mathlib.Numerals.{add-one}
use lib.ListN.{length, get_or, length-append, length-replicate}
use Rattle.slices.specs.Slices.{Bytes, put, over, joined}
use Rattle.slices.proofs.SliceLaws.{over-put, put-none, length-put}
use Rattle.bits.proofs.BytesLaws.{length-bytes_of}
use Rattle.sets.specs.declared.Set.{Set}
use Rattle.sets.specs.Sets.{IsSet}
use Rattle.sets.specs.Lengths.{w, salt_length, header_length, seeds_length, longest}
use Rattle.circuit.specs.Lowmc.{Cipher}
use Rattle.circuit.specs.Round.{Party, party0, party1, party2, next}
use Rattle.lowmc.specs.Lent.{cipher_of}
use Rattle.hashing.specs.Hashing.{commitment}
use Rattle.hashing.proofs.HashingLaws.{length-h}
use Rattle.shape.specs.Fields.{sizes}
use Rattle.shape.specs.Header.{header_of}
use Rattle.shape.specs.Rounds.{round_fields, round_start}
use Rattle.shape.specs.Form.{Shown, Sized, round_of}
use Rattle.shape.proofs.SetFacts.{longest≤}
use Rattle.shape.proofs.PartLaws.{put-joined}
use Rattle.shape.proofs.HeaderLaws.{length_header}
use Rattle.shape.proofs.RoundsLaws.{signature-most, start_first, start-more, start-within, round-within}
use Rattle.shape.proofs.ShownLaws.{length-round_of, signature_of_parts, start_of_round}
use Rattle.views.specs.Parties.{party_of}
use Rattle.views.specs.Signed.{seed_at, salt_at, shares, transcripts, commitments, shown_share, shown}
use Rattle.signer.specs.Sign.{shown_at, signature_for}
use Rattle.signer.proofs.SeedLaws.{length_seed, length_salt}

-- ---- header and salt

-- the salt is put behind the header, where n is the code's length of a header and s the salt
pub front_put : (p : Set) (seeds es out s : Bytes) (n : ℕ) → length seeds ≡ seeds_length p → header_length p + salt_length ≤ length out → s ≡ salt_at p seeds
    → n ≡ header_length p → {out1 out2 : Bytes} → out1 ≡ over (header_of p es) out → out2 ≡ put out1 n s → out2 ≡ over (header_of p es ++ salt_at p seeds) out
front_put p seeds es out s n h f e en {out1} {out2} a b =
    let l : n ≡ length (header_of p es) = en ∙ sym (length_header p es) in
    b ∙ ((λ i. put (a i) (l i) (e i))
    ∙ over-put (header_of p es) (salt_at p seeds) out (omega (arith, length_header p es, length_salt p seeds h)))

-- ---- what is shown has its lengths

module _ {p : Set} (h : IsSet p) (keys layers constants secret public seeds : Bytes) (le : length seeds ≡ seeds_length p) where
  abbrev C : Cipher
  C = cipher_of p keys layers constants

  module _ (t : ℕ) (l : t < p.t) (sk block : Bytes) where
    length-commitment : (j : Party) → length (commitments p C (salt_at p seeds) t (seed_at p seeds t) sk block j) ≡ p.digest
    unfolding commitments commitment
    length-commitment j = length-h h 0 _

    length-share : (j : Party) → length (shown_share p C (salt_at p seeds) t (seed_at p seeds t) sk block j) ≡ w p
    unfolding shares
    length-share party0 = length-replicate {A = ℕ} (w p) 0
    length-share party1 = length-bytes_of p.n _
    length-share party2 = length-bytes_of p.n _

    sized_for : (j : Party) → Sized p (shown p C (salt_at p seeds) t (seed_at p seeds t) sk block j)
    unfolding shown transcripts
    sized_for j = record {
      commitment = length-commitment (next (next j));
      transcript = length-bytes_of (3 * p.s * p.r) _;
      seed1 = length_seed p seeds t le l j;
      seed2 = length_seed p seeds t le l (next j);
      share = length-share j;
    }

  pub shown-sized : (t : ℕ) → t < p.t → (e : ℕ) → Sized p (shown_at p C secret public seeds t e)
  shown-sized t l e = sized_for t l secret _ (party_of e)

-- ---- round by round

-- round t as it is written
abbrev round_at : Set → Cipher → (secret public seeds es : Bytes) → ℕ → Bytes
round_at p C secret public seeds es t = round_of p (get_or es t 0) (shown_at p C secret public seeds t (get_or es t 0))

-- the first t rounds are written, and the next one starts at a place
pub record Rounds (p : Set) (C : Cipher) (secret public seeds es out₀ : Bytes) (t at : ℕ) (out : Bytes) : Type 0 where
  pub far : t ≤ p.t
  pub at_is : at ≡ round_start p es t
  pub is : out ≡ put out₀ (header_length p + salt_length) (joined t (round_at p C secret public seeds es))

pub rounds-none : (p : Set) (C : Cipher) (secret public seeds es out₀ : Bytes) (at : ℕ) → at ≡ header_length p + salt_length
    → Rounds p C secret public seeds es out₀ 0 at out₀
unfolding joined
rounds-none p C secret public seeds es out₀ at e = record {
  far = omega arith;
  at_is = e ∙ sym (start_first p es);
  is = sym (put-none out₀ (header_length p + salt_length));
}

module _ {p : Set} (h : IsSet p) (keys layers constants secret public seeds es : Bytes) (ls : length seeds ≡ seeds_length p) (le : length es ≡ p.t) where
  abbrev K : Cipher
  K = cipher_of p keys layers constants

  abbrev us : ℕ → Shown
  us t = shown_at p K secret public seeds t (get_or es t 0)

  abbrev rs : ℕ → Bytes
  rs = round_at p K secret public seeds es

  us_sized : (t : ℕ) → t < p.t → Sized p (us t)
  us_sized t l = shown-sized h keys layers constants secret public seeds ls t l (get_or es t 0)

  starts : (t : ℕ) → t ≤ p.t → header_length p + salt_length + length (joined t rs) ≡ round_start p es t
  starts = start_of_round p es (salt_at p seeds) us le (length_salt p seeds ls) us_sized

  start-most : (t : ℕ) → t ≤ p.t → round_start p es t ≤ longest p
  start-most t l = omega (arith, start-within p es t (omega arith), signature-most p es le)

  module _ {out₀ : Bytes} {t at : ℕ} {out : Bytes} (u : Rounds p K secret public seeds es out₀ t at out) (f : longest p ≤ length out₀) where
    pub rounds-length : length out ≡ length out₀
    rounds-length =
        ap length u.is
        ∙ length-put out₀ (header_length p + salt_length) (joined t rs) (omega (arith, starts t u.far, start-most t u.far))

    -- the next round has its place
    pub rounds_inside : t < p.t → at + sizes (round_fields p (get_or es t 0)) ≤ length out
    rounds_inside l = omega (arith, u.at_is, round-within p es t (omega arith), signature-most p es le, rounds-length)

    pub rounds-more : t < p.t → {n : ℕ} {out1 : Bytes} → n ≡ at + sizes (round_fields p (get_or es t 0)) → out1 ≡ put out at (rs t)
        → Rounds p K secret public seeds es out₀ (t + 1) n out1
    rounds-more l {n} {out1} en e =
        let q : at ≡ header_length p + salt_length + length (joined t rs) = u.at_is ∙ sym (starts t u.far) in
        let b : length (rs t) ≡ sizes (round_fields p (get_or es t 0)) = length-round_of p (us t) (us_sized t l) (get_or es t 0) in
        record {
          far = omega arith;
          at_is = omega (arith, u.at_is, start-more p es t (omega arith));
          is =
              e ∙ (ap (λ (y : Bytes). put y at (rs t)) u.is
              ∙ (put-joined out₀ (header_length p + salt_length) t rs at q (omega (arith, rounds_inside l, rounds-length))
              ∙ ap (λ (i : ℕ). put out₀ (header_length p + salt_length) (joined i rs)) (sym (add-one t))));
        }

  abbrev head : Bytes
  head = header_of p es

  abbrev last : Bytes
  last = salt_at p seeds

  whole : signature_for p K secret public seeds es ≡ head ++ (last ++ joined p.t rs)
  unfolding signature_for
  whole = signature_of_parts p es last us le (length_salt p seeds ls) us_sized

  length_front : length (head ++ last) ≡ header_length p + salt_length
  length_front = omega (arith, length-append head last, length_header p es, length_salt p seeds ls)

  -- the signature ends where a further round would start
  length-signature : length (signature_for p K secret public seeds es) ≡ round_start p es p.t
  length-signature =
      omega (
        arith,
        starts p.t (omega arith),
        ap length whole,
        length-append head (last ++ joined p.t rs),
        length-append last (joined p.t rs),
        length_header p es,
        length_salt p seeds ls,
      )

  pub signature_short : length (signature_for p K secret public seeds es) ≤ 132856
  signature_short = omega (arith, length-signature, start-most p.t (omega arith), longest≤ h)

  -- after header, salt and all rounds it is the signature
  module _ {out₀ : Bytes} {t at : ℕ} {out : Bytes} (u : Rounds p K secret public seeds es out₀ t at out) (before : Bytes)
      (f : longest p ≤ length before) (front : out₀ ≡ over (header_of p es ++ salt_at p seeds) before) (l : p.t ≤ t) where
    all : t ≡ p.t
    all = omega (arith, u.far)

    pub rounds_end : at ≡ length (signature_for p K secret public seeds es)
    rounds_end = u.at_is ∙ (ap (round_start p es) all ∙ sym length-signature)

    pub rounds-all : out ≡ over (signature_for p K secret public seeds es) before
    rounds-all =
        u.is
        ∙ ((λ i. put (front i) (sym length_front i) (joined (all i) rs))
        ∙ (over-put (head ++ last) (joined p.t rs) before
        (omega (arith, length_front, starts p.t (omega arith), start-most p.t (omega arith)))
        ∙ ap (λ (x : Bytes). over x before) (append_assoc head last (joined p.t rs) ∙ sym whole)))
