-- Laws of the sponge as a value: pieces, what stays within a block, and what stays.
use mathlib.Core.Path.{◌≡◌, refl, sym, ap, ap₂, ◌∙◌, subst}
use mathlib.Core.Bool.{Bool, true, false}
use mathlib.Core.List.{[], ◌∷◌, ◌++◌}
use Prim.Native.Nat.{ℕ, zero, suc, ◌+◌, ◌<◌, ◌≤◌}
use native.Mathlib.Omega.{arith}
use native.Mathlib.Nat.{zero-add, suc-add, add-zero}
use lib.Dec.{eqb}
use lib.ListN.{length}
use borrow.Author.Tests.{eq-eqb, ne_eqb, eqb-true, eqb-false}
use Rattle.keccak.specs.Lanes.{Lanes, permuted}
use Rattle.keccak.proofs.LanesLaws.{length-permuted}
use Rattle.slices.specs.Slices.{Bytes, put, over}
use Rattle.slices.proofs.SliceLaws.{over_none, over-put, over-whole}
use Rattle.shake.specs.declared.Sponge.{Sponge}
use Rattle.shake.specs.Shake.{byte_at, bytes_at, byte_added, added}
use Rattle.shake.specs.Sponge.{sponge, absorbed_byte, absorbed, ready, passed, given, squeezed, AbsorbsInPieces, SqueezesInPieces}
use Rattle.shake.proofs.StateLaws.{length-byte_added}

-- ---- pieces

pub absorbs_in_pieces : AbsorbsInPieces
unfolding AbsorbsInPieces absorbed
absorbs_in_pieces s [] n = refl
absorbs_in_pieces s (b ∷ m) n = absorbs_in_pieces (absorbed_byte s b) m n

pub absorbed-append : (s : Sponge) (m n : Bytes) → absorbed (absorbed s m) n ≡ absorbed s (m ++ n)
unfolding AbsorbsInPieces
absorbed-append = absorbs_in_pieces

pub absorbed-none : (s : Sponge) → s ≡ absorbed s []
unfolding absorbed
absorbed-none s = refl

pub squeezed-add : (s : Sponge) (m n : ℕ) → squeezed (squeezed s m) n ≡ squeezed s (m + n)
unfolding squeezed
squeezed-add s zero n = rw zero-add
squeezed-add s (suc m) n = rw suc-add (squeezed-add (passed (ready s)) m n)

pub given-add : (s : Sponge) (m n : ℕ) → given s m ++ given (squeezed s m) n ≡ given s (m + n)
unfolding squeezed given
given-add s zero n = rw zero-add
given-add s (suc m) n = rw suc-add (ap (λ (l : Bytes). byte_at (ready s).lanes (ready s).at ∷ l) (given-add (passed (ready s)) m n))

pub squeezes_in_pieces : SqueezesInPieces
squeezes_in_pieces = record { next = squeezed-add; bytes = given-add }

pub squeezed-none : (s : Sponge) → s ≡ squeezed s 0
unfolding squeezed
squeezed-none s = refl

pub given-none : (s : Sponge) → given s 0 ≡ []
unfolding given
given-none s = refl

pub length-given : (s : Sponge) (n : ℕ) → length (given s n) ≡ n
unfolding given
length-given s zero = refl
length-given s (suc n) = ap suc (length-given (passed (ready s)) n)

-- ---- taking in, within a block

module _ (r : ℕ) (a : Lanes) (j b : ℕ) where
  -- the last byte of the block
  pub absorbed-last : j + 1 ≡ r → absorbed_byte (sponge r a j) b ≡ sponge r (permuted (byte_added a j b)) 0
  unfolding absorbed_byte
  absorbed-last e = rw (eq-eqb (j + 1) r e)

  -- any other
  pub absorbed-next : (j + 1 ≡ r → ⊥) → absorbed_byte (sponge r a j) b ≡ sponge r (byte_added a j b) (j + 1)
  unfolding absorbed_byte
  absorbed-next n = rw (ne_eqb (j + 1) r n)

-- bytes that leave room
pub absorbed-room : (r : ℕ) (a : Lanes) (j : ℕ) (p : Bytes) → j + length p < r
    → absorbed (sponge r a j) p ≡ sponge r (added a j p) (j + length p)
unfolding absorbed added
absorbed-room r a j [] h = ap (sponge r a) (sym (add-zero j))
absorbed-room r a j (b ∷ p) h =
    let e : j + 1 + length p ≡ j + suc (length p) = omega arith in
    ap (λ (s : Sponge). absorbed s p) (absorbed-next r a j b (λ q. omega arith))
    ∙ absorbed-room r (byte_added a j b) (j + 1) p (omega arith) ∙ ap (sponge r (added (byte_added a j b) (j + 1) p)) e

-- bytes that fill the block
pub absorbed_full : (r : ℕ) (a : Lanes) (j : ℕ) (p : Bytes) → j < r → j + length p ≡ r
    → absorbed (sponge r a j) p ≡ sponge r (permuted (added a j p)) 0
unfolding absorbed added
absorbed_full r a j [] h e = absurd (omega arith)
absorbed_full r a j (b ∷ []) h e = absorbed-last r a j b (omega arith)
absorbed_full r a j (b ∷ (d ∷ p)) h e =
    ap (λ (s : Sponge). absorbed s (d ∷ p)) (absorbed-next r a j b (λ q. omega arith))
    ∙ absorbed_full r (byte_added a j b) (j + 1) (d ∷ p) (omega arith) (omega arith)

-- what is to be taken in, the bytes p that fill the block first
pub absorbed_block : (r : ℕ) (a b d : Lanes) (j : ℕ) (p q : Bytes) → j < r → j + length p ≡ r → b ≡ added a j p → d ≡ permuted b
    → absorbed (sponge r d 0) q ≡ absorbed (sponge r a j) (p ++ q)
absorbed_block r a b d j p q h l e f =
    ap (λ (x : Lanes). absorbed (sponge r x 0) q) (f ∙ ap permuted e)
    ∙ ap (λ (t : Sponge). absorbed t q) (sym (absorbed_full r a j p h l))
    ∙ absorbed-append (sponge r a j) p q

-- ---- giving, within a block

module _ (r : ℕ) (a : Lanes) (j : ℕ) where
  -- a block that is spent
  pub ready_spent : j ≡ r → ready (sponge r a j) ≡ sponge r (permuted a) 0
  unfolding ready
  ready_spent e = rw (eq-eqb j r e)

  -- any other
  pub ready-more : (j ≡ r → ⊥) → ready (sponge r a j) ≡ sponge r a j
  unfolding ready
  ready-more n = rw (ne_eqb j r n)

  passed-one : passed (sponge r a j) ≡ sponge r a (j + 1)
  unfolding passed
  passed-one = refl

pub given-room : (r : ℕ) (a : Lanes) (j n : ℕ) → j + n ≤ r → given (sponge r a j) n ≡ bytes_at a j n
unfolding given bytes_at
given-room r a j zero h = refl
given-room r a j (suc n) h =
    let e = ready-more r a j (λ q. omega arith) in
    ap₂ ◌∷◌ (ap (λ (s : Sponge). byte_at s.lanes s.at) e)
    (ap (λ (s : Sponge). given s n) (ap passed e ∙ passed-one r a j) ∙ given-room r a (j + 1) n (omega arith))

pub squeezed-room : (r : ℕ) (a : Lanes) (j n : ℕ) → j + n ≤ r → squeezed (sponge r a j) n ≡ sponge r a (j + n)
unfolding squeezed
squeezed-room r a j zero h = ap (sponge r a) (sym (add-zero j))
squeezed-room r a j (suc n) h =
    let e = ready-more r a j (λ q. omega arith) in
    let f : j + 1 + n ≡ j + suc n = omega arith in
    ap (λ (s : Sponge). squeezed s n) (ap passed e ∙ passed-one r a j) ∙ squeezed-room r a (j + 1) n (omega arith) ∙ ap (sponge r a) f

-- made ready before the next bytes, or by them
ready_twice : (s : Sponge) → 0 < s.rate → ready (ready s) ≡ ready s
ready_twice s h = go (eqb s.at s.rate) refl
  where
    go : (t : Bool) → eqb s.at s.rate ≡ t → ready (ready s) ≡ ready s
    go true e =
        let q = ready_spent s.rate s.lanes s.at (eqb-true _ _ e) in
        ap ready q ∙ ready-more s.rate (permuted s.lanes) 0 (λ p. omega arith) ∙ sym q
    go false e = ap ready (ready-more s.rate s.lanes s.at (eqb-false _ _ e))

pub given-ready : (s : Sponge) (n : ℕ) → 0 < s.rate → 0 < n → given (ready s) n ≡ given s n
unfolding given
given-ready s zero h l = absurd (omega arith)
given-ready s (suc n) h l = rw (ready_twice s h)

pub squeezed-ready : (s : Sponge) (n : ℕ) → 0 < s.rate → 0 < n → squeezed (ready s) n ≡ squeezed s n
unfolding squeezed
squeezed-ready s zero h l = absurd (omega arith)
squeezed-ready s (suc n) h l = rw (ready_twice s h)

-- s has given i bytes and is now t: n more from u, the block that is ready
pub squeezed_block : (s t u : Sponge) (i n : ℕ) → t ≡ squeezed s i → u ≡ ready t → 0 < t.rate → 0 < n → u.at + n ≤ u.rate
    → (sponge u.rate u.lanes (u.at + n) ≡ squeezed s (i + n)) × (given s i ++ bytes_at u.lanes u.at n ≡ given s (i + n))
squeezed_block s t u i n e f hr hn h = (
  sym (squeezed-room u.rate u.lanes u.at n h) ∙ ap (λ (x : Sponge). squeezed x n) f ∙ squeezed-ready t n hr hn
      ∙ ap (λ (x : Sponge). squeezed x n) e ∙ squeezed-add s i n,
  ap (λ (p : Bytes). given s i ++ p)
      (sym (given-room u.rate u.lanes u.at n h) ∙ ap (λ (x : Sponge). given x n) f ∙ given-ready t n hr hn ∙ ap (λ (x : Sponge). given x n) e)
      ∙ given-add s i n,
)

-- ---- bytes given into a slice

pub over-given-none : (s : Sponge) (o : Bytes) → o ≡ over (given s 0) o
unfolding given
over-given-none s o = over_none o

-- n more behind the first i
pub over-given : (s : Sponge) (o t : Bytes) (i n : ℕ) (p q : Bytes) → i + n ≤ length o → t ≡ over (given s i) o → length q ≡ n → p ≡ q
    → given s i ++ q ≡ given s (i + n) → put t i p ≡ over (given s (i + n)) o
over-given s o t i n p q h e l f g =
    let li = length-given s i in
    ap₂ (λ (x y : Bytes). put x i y) e f ∙ ap (λ (k : ℕ). put (over (given s i) o) k q) (sym li)
    ∙ over-put (given s i) q o (omega (arith, li, l)) ∙ ap (λ (x : Bytes). over x o) g

-- the slice is full
pub over-given-all : (s : Sponge) (o : Bytes) → over (given s (length o)) o ≡ given s (length o)
over-given-all s o = over-whole (given s (length o)) o (length-given s (length o))

-- ---- what stays

-- rate and length, after one byte taken in
record Kept (s t : Sponge) : Type 0 where
  rate : t.rate ≡ s.rate
  lanes : length s.lanes ≡ 25 → length t.lanes ≡ 25

kept_byte : (s : Sponge) (b : ℕ) → Kept s (absorbed_byte s b)
kept_byte s b = go (eqb (s.at + 1) s.rate) refl
  where
    r : ℕ
    r = s.rate

    a : Lanes
    a = byte_added s.lanes s.at b

    la : length s.lanes ≡ 25 → length a ≡ 25
    la l = length-byte_added s.lanes s.at b ∙ l

    go : (t : Bool) → eqb (s.at + 1) s.rate ≡ t → Kept s (absorbed_byte s b)
    go true e =
        subst (Kept s) (sym (absorbed-last s.rate s.lanes s.at b (eqb-true _ _ e)))
        (record { rate = refl; lanes = λ l. length-permuted a (la l) })
    go false e =
        let n = eqb-false _ _ e in
        subst (Kept s) (sym (absorbed-next s.rate s.lanes s.at b n))
        (record { rate = refl; lanes = la })

kept : (s : Sponge) (m : Bytes) → Kept s (absorbed s m)
unfolding absorbed
kept s [] = record { rate = refl; lanes = λ l. l }
kept s (b ∷ m) =
    let p = kept_byte s b in
    let q = kept (absorbed_byte s b) m in
    record { rate = q.rate ∙ p.rate; lanes = λ l. q.lanes (p.lanes l) }

pub rate_absorbed : (s : Sponge) (m : Bytes) → (absorbed s m).rate ≡ s.rate
rate_absorbed s m = (kept s m).rate

pub length-absorbed : (s : Sponge) (m : Bytes) → length s.lanes ≡ 25 → length (absorbed s m).lanes ≡ 25
length-absorbed s m = (kept s m).lanes
