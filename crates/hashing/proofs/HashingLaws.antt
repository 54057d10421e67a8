-- What a chain of the sponge's methods gives, at the rate of a set: each step feeds some bytes more, and the last gives the hash of all.
use mathlib.Core.Path.{◌≡◌, refl, sym, ap, ◌∙◌}
use mathlib.Core.List.{[], ◌∷◌, ◌++◌, append_assoc}
use Prim.Native.Nat.{ℕ, ◌/◌, ◌%◌, ◌<◌, ◌≤◌}
use native.Mathlib.Omega.{arith}
use lib.Dec.{lit<}
use lib.ListN.{length, take, drop}
use lib.Seq.{length_front, length-take-le, take_at}
use Rattle.slices.specs.Slices.{Bytes, over}
use Rattle.sets.specs.declared.Set.{Set}
use Rattle.sets.specs.Sets.{IsSet}
use Rattle.sets.specs.Lengths.{seeds_length}
use Rattle.sets.proofs.Each.{each, most}
use Rattle.shake.specs.declared.Sponge.{Sponge}
use Rattle.shake.specs.Sponge.{started, absorbed, padded, given, Rate, AbsorbsInPieces, GivesShake}
use Rattle.shake.proofs.SpongeLaws.{absorbs_in_pieces, length-given}
use Rattle.shake.proofs.ShakeLaws.{gives-shake}
use Rattle.hashing.specs.Hashing.{h, kdf, le16, tape_input, derived_seeds}

-- a set's rate is one of SHAKE's
pub rated : {p : Set} → IsSet p → Rate p.rate
rated =
    each (λ (p : Set). Rate p.rate)
    (record { some = lit< tt; small = lit< tt; words = refl })
    (record { some = lit< tt; small = lit< tt; words = refl })
    (record { some = lit< tt; small = lit< tt; words = refl })

-- a sponge that was fed x first
pub fed_first : (r : ℕ) (s t : Sponge) (x : Bytes) → s ≡ started r → t ≡ absorbed s x → t ≡ absorbed (started r) x
fed_first r s t x es et = et ∙ ap (λ (u : Sponge). absorbed u x) es

-- a sponge that was fed m and then x
pub fed_more : (r : ℕ) (s t : Sponge) (m x : Bytes) → s ≡ absorbed (started r) m → t ≡ absorbed s x → t ≡ absorbed (started r) (m ++ x)
unfolding AbsorbsInPieces
fed_more r s t m x es et = et ∙ (ap (λ (u : Sponge). absorbed u x) es ∙ absorbs_in_pieces (started r) m x)

module _ {p : Set} (i : IsSet p) (s u : Sponge) (n : ℕ) (padding : u ≡ padded s) where
  -- padded and squeezed: KDF of what was fed
  pub kdf-given : (m : Bytes) → s ≡ absorbed (started p.rate) m → given u n ≡ kdf p m n
  unfolding kdf GivesShake
  kdf-given m e = rw (padding, e) (gives-shake p.rate (rated i) m n)

  -- or H_k, where the byte k was fed first
  pub h-given : (k : ℕ) (x : Bytes) → s ≡ absorbed (started p.rate) (k ∷ x) → n ≡ p.digest → given u n ≡ h p k x
  unfolding h GivesShake
  h-given k x e l = rw (padding, e, l) (gives-shake p.rate (rated i) (k ∷ x) p.digest)

-- a 16-bit number as two bytes
pub le16-bytes : (v : ℕ) → v < 65536 → v % 256 ∷ v / 256 ∷ [] ≡ le16 v
unfolding le16
le16-bytes v h = let e : v / 256 ≡ v / 256 % 256 = omega arith in ap (λ (b : ℕ). v % 256 ∷ b ∷ []) e

regrouped : (a b c d e f : Bytes) → ((((a ++ b) ++ c) ++ d) ++ e) ++ f ≡ a ++ (b ++ (c ++ (d ++ (e ++ f))))
regrouped a b c d e f = simp append_assoc

-- what a tape is fed, piece by piece
pub fed_tape : (r : ℕ) (digest salt : Bytes) (t j n : ℕ) → t < 65536 → j < 65536 → n < 65536
    → absorbed (started r) ((((digest ++ salt) ++ (t % 256 ∷ t / 256 ∷ [])) ++ (j % 256 ∷ j / 256 ∷ [])) ++ (n % 256 ∷ n / 256 ∷ []))
    ≡ absorbed (started r) (tape_input digest salt t j n)
unfolding tape_input
fed_tape r digest salt t j n ht hj hn =
    ap (absorbed (started r))
    (regrouped [] digest salt (t % 256 ∷ t / 256 ∷ []) (j % 256 ∷ j / 256 ∷ []) (n % 256 ∷ n / 256 ∷ [])
    ∙ (λ q. digest ++ (salt ++ (le16-bytes t ht q ++ (le16-bytes j hj q ++ le16-bytes n hn q)))))

-- what the digest of a view is fed, piece by piece
pub fed_view : (r : ℕ) (d share transcript result : Bytes)
    → absorbed (started r) ((((0 ∷ [] ++ d) ++ share) ++ transcript) ++ result) ≡ absorbed (started r) (0 ∷ (d ++ (share ++ (transcript ++ result))))
fed_view r d share transcript result = ap (absorbed (started r)) (regrouped [] (0 ∷ []) d share transcript result)

-- what derived seeds are fed, piece by piece
pub fed_seeds : (r : ℕ) (secret message public : Bytes) (v : ℕ) → v < 65536
    → absorbed (started r) (((secret ++ message) ++ public) ++ (v % 256 ∷ v / 256 ∷ [])) ≡ absorbed (started r) (secret ++ (message ++ (public ++ le16 v)))
fed_seeds r secret message public v h =
    ap (absorbed (started r))
    (regrouped [] [] secret message public (v % 256 ∷ v / 256 ∷ []) ∙ (λ q. secret ++ (message ++ (public ++ le16-bytes v h q))))

-- a digest fits the largest
pub digest_fits : {p : Set} → IsSet p → p.digest ≤ 64
digest_fits = most (λ (p : Set). p.digest) 64 tt tt tt

-- ---- a digest in the first bytes of an array

module _ (l v : Bytes) (n : ℕ) (h : n ≤ length l) (e : length v ≡ length (take n l)) where
  pub front_long : n ≤ length (v ++ drop n l)
  front_long = omega (arith, length_front l v n e)

  pub front_length : n ≡ length (take n (v ++ drop n l))
  front_length = sym (length-take-le n (v ++ drop n l) front_long)

  pub front_is : take n (v ++ drop n l) ≡ v
  front_is = take_at v (drop n l) n (e ∙ length-take-le n l h)

-- the first n bytes of a slice written
pub front_over : (l v vs : Bytes) (n : ℕ) → v ≡ vs → length v ≡ n → v ++ drop n l ≡ over vs l
unfolding over
front_over l v vs n e h = rw (← e, h)

-- ---- lengths

-- KDF gives as many bytes as are asked for
pub length-kdf : {p : Set} → IsSet p → (x : Bytes) (n : ℕ) → length (kdf p x n) ≡ n
unfolding kdf GivesShake
length-kdf {p} q x n =
    ap length (sym (gives-shake p.rate (rated q) x n)) ∙ length-given (padded (absorbed (started p.rate) x)) n

-- H_i gives a digest
pub length-h : {p : Set} → IsSet p → (i : ℕ) (x : Bytes) → length (h p i x) ≡ p.digest
unfolding h kdf
length-h {p} q i x = length-kdf q (i ∷ x) p.digest

-- derived seeds have the length that signing asks for
pub length_derived : {p : Set} → IsSet p → (secret message public : Bytes) → length (derived_seeds p secret message public) ≡ seeds_length p
unfolding derived_seeds
length_derived {p} q secret message public = length-kdf q _ (seeds_length p)
