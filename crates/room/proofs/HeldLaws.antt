-- What the room holds after t of T rounds: two regions, filled round by round, and the rest as it was.
use mathlib.Core.Path.{◌≡◌, refl, sym, ap, ◌∙◌}
use mathlib.Core.List.{◌++◌}
use Prim.Native.Nat.{ℕ, suc, ◌+◌, ◌*◌, ◌≤◌, ◌<◌}
use native.Mathlib.Nat.{suc-mul, zero-mul, mul-le-mul_right}
use native.Mathlib.Numerals.{add-one}
use native.Mathlib.Omega.{arith}
use lib.ListN.{length, take, drop, length-drop, take-append-drop}
use lib.Seq.{take-add, length-take-le}
use Rattle.slices.specs.Slices.{Bytes, put, over, joined}
use Rattle.slices.proofs.SliceLaws.{length-put, take_put, take-put_low, drop-put_high, drop-put_low}
use Rattle.sets.specs.declared.Set.{Set}
use Rattle.sets.specs.Sets.{IsSet}
use Rattle.sets.specs.Lengths.{w, room_length}
use Rattle.circuit.specs.Round.{Party}
use Rattle.views.specs.Parties.{three}
use Rattle.views.specs.Input.{by_round, filling}
use Rattle.room.specs.Room.{with_round}
use Rattle.room.proofs.RoomLaws.{sizes}

-- ---- a region of rows

-- the first t rows of m bytes stand from base on
abbrev pub Region : (base m t : ℕ) → (ℕ → Bytes) → Bytes → Type 0
Region base m t f r = take (t * m) (drop base r) ≡ joined t f

region_none : (base m : ℕ) (f : ℕ → Bytes) (r : Bytes) → Region base m 0 f r
unfolding joined
region_none base m f r = rw (zero-mul m)

-- one row more
region_more : (base m t : ℕ) (f : ℕ → Bytes) (r : Bytes) (at : ℕ) → at ≡ base + t * m → length (f t) ≡ m → base + (t * m + m) ≤ length r
    → Region base m t f r → Region base m (t + 1) f (put r at (f t))
unfolding joined
region_more base m t f r at ea l h e =
    let d = drop base r in
    let hd : t * m + length (f t) ≤ length d = omega (arith, length-drop base r) in
    let q : t * m + m ≡ t * m + length (f t) = omega arith in
    rw (ea, add-one, suc-mul, drop-put_low r base (t * m) (f t) (omega arith), q)
    (take_put d (t * m) (f t) hd ∙ ap (λ (x : Bytes). x ++ f t) e)

-- a write behind it
region_after : (base m t : ℕ) (f : ℕ → Bytes) (r vs : Bytes) (at k : ℕ) → at ≡ base + k → base + k + length vs ≤ length r → t * m ≤ k
    → Region base m t f r → Region base m t f (put r at vs)
region_after base m t f r vs at k ea h l e =
    rw (ea, drop-put_low r base k vs (omega arith))
    (take-put_low (drop base r) k vs (omega (arith, length-drop base r)) (t * m) l ∙ e)

-- a write before it
region_before : (base m t : ℕ) (f : ℕ → Bytes) (r vs : Bytes) (at : ℕ) → at + length vs ≤ length r → at + length vs ≤ base
    → Region base m t f r → Region base m t f (put r at vs)
region_before base m t f r vs at h l e = rw (drop-put_high r at vs h base l) e

-- ---- two regions

-- after t of k rounds: rows of a bytes, and behind all of these rows of b
pub record Rows (k a b t : ℕ) (f g : ℕ → Bytes) (r₀ r : Bytes) : Type 0 where
  pub size : length r ≡ length r₀
  pub first : Region 0 a t f r
  pub second : Region (k * a) b t g r
  pub rest : drop (k * a + k * b) r ≡ drop (k * a + k * b) r₀

module _ (k a b : ℕ) (f g : ℕ → Bytes) (r₀ : Bytes) where
  rows_none : Rows k a b 0 f g r₀ r₀
  rows_none = record { size = refl; first = region_none 0 a f r₀; second = region_none (k * a) b g r₀; rest = refl }

  module _ (t : ℕ) (r : Bytes) (below : t < k) (enough : k * a + k * b ≤ length r₀) (lf : length (f t) ≡ a) (lg : length (g t) ≡ b) (h : Rows k a b t f g r₀ r) where
    ta : t * a + a ≤ k * a
    ta = let q : suc t * a ≤ k * a = mul-le-mul_right a below in omega (arith, suc-mul t a)

    tb : t * b + b ≤ k * b
    tb = let q : suc t * b ≤ k * b = mul-le-mul_right b below in omega (arith, suc-mul t b)

    abbrev one : Bytes
    one = put r (t * a) (f t)

    size1 : length one ≡ length r₀
    size1 = length-put r (t * a) (f t) (omega (arith, ta, tb, h.size)) ∙ h.size

    rows_more : Rows k a b (t + 1) f g r₀ (put (put r (t * a) (f t)) (k * a + t * b) (g t))
    rows_more = record {
      size = length-put one (k * a + t * b) (g t) (omega (arith, tb, size1)) ∙ size1;
      first =
          region_after 0 a (t + 1) f one (g t) (k * a + t * b) (k * a + t * b) (omega arith) (omega (arith, tb, size1))
          (omega (arith, ta, suc-mul t a, ap (λ (n : ℕ). n * a) (add-one t)))
          (region_more 0 a t f r (t * a) (omega arith) lf (omega (arith, ta, tb, h.size)) h.first);
      second =
          region_more (k * a) b t g one (k * a + t * b) refl lg (omega (arith, tb, size1))
          (region_before (k * a) b t g r (f t) (t * a) (omega (arith, ta, tb, h.size)) (omega (arith, ta)) h.second);
      rest =
          drop-put_high one (k * a + t * b) (g t) (omega (arith, tb, size1)) (k * a + k * b) (omega (arith, tb))
          ∙ (drop-put_high r (t * a) (f t) (omega (arith, ta, tb, h.size)) (k * a + k * b) (omega (arith, ta)) ∙ h.rest);
    }

  module _ (r : Bytes) (enough : k * a + k * b ≤ length r₀) (h : Rows k a b k f g r₀ r) where
    rows_all : take (k * a + k * b) r ≡ joined k f ++ joined k g
    rows_all =
        take-add (k * a) (k * b) r
        ∙ (ap (λ (x : Bytes). x ++ take (k * b) (drop (k * a) r)) h.first ∙ ap (λ (x : Bytes). joined k f ++ x) h.second)

    length-rows : length (joined k f ++ joined k g) ≡ k * a + k * b
    length-rows = sym (ap length rows_all) ∙ length-take-le (k * a + k * b) r (omega (arith, h.size))

    rows-over : r ≡ over (joined k f ++ joined k g) r₀
    unfolding over
    rows-over =
        sym (take-append-drop (k * a + k * b) r)
        ∙ (ap (λ (x : Bytes). x ++ drop (k * a + k * b) r) rows_all
        ∙ ap (λ (x : Bytes). (joined k f ++ joined k g) ++ x) (h.rest ∙ ap (λ (n : ℕ). drop n r₀) (sym length-rows)))

-- ---- the room

-- after t rounds the room holds their output shares o and commitments c, and the rest as it was
unfoldable pub Held : Set → ℕ → (o c : ℕ → Party → Bytes) → (r₀ r : Bytes) → Type 0
Held p t o c r₀ r = Rows p.t (3 * w p) (3 * p.digest) t (λ i. three (o i)) (λ i. three (c i)) r₀ r

module _ {p : Set} (h : IsSet p) (o c : ℕ → Party → Bytes) (r₀ : Bytes) where
  pub held_none : Held p 0 o c r₀ r₀
  unfolding Held
  held_none = rows_none p.t (3 * w p) (3 * p.digest) _ _ r₀

  pub held_more : (t : ℕ) (r : Bytes) → t < p.t → room_length p ≤ length r₀ → length (three (o t)) ≡ 3 * w p → length (three (c t)) ≡ 3 * p.digest
      → Held p t o c r₀ r → Held p (t + 1) o c r₀ (with_round p t (three (o t)) (three (c t)) r)
  unfolding Held
  held_more t r l e lo lc g = rows_more p.t (3 * w p) (3 * p.digest) _ _ r₀ t r l (omega (arith, (sizes h).room)) lo lc g

  -- after all rounds it holds the start of the challenge's input as it stands
  pub held_all : (r : Bytes) → room_length p ≤ length r₀ → Held p p.t o c r₀ r → r ≡ over (filling p o c) r₀
  unfolding Held filling by_round
  held_all r e g = rows-over p.t (3 * w p) (3 * p.digest) _ _ r₀ r (omega (arith, (sizes h).room)) g

  pub length-filling : (r : Bytes) → room_length p ≤ length r₀ → Held p p.t o c r₀ r → length (filling p o c) ≡ room_length p
  unfolding Held filling by_round
  length-filling r e g = length-rows p.t (3 * w p) (3 * p.digest) _ _ r₀ r (omega (arith, (sizes h).room)) g ∙ (sizes h).room
