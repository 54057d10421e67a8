-- Laws of fields: packing and unpacking undo each other, and fields one after the other.
use mathlib.Core.Path.{◌≡◌, refl, sym, ap, ◌∙◌}
use mathlib.Core.Bool.{true, ◌&&◌, and_assoc}
use mathlib.Core.List.{List, [], ◌∷◌, ◌++◌, append_assoc}
use Prim.Native.Nat.{ℕ, ◌+◌, ◌≤◌}
use native.Mathlib.Omega.{arith}
use lib.ListN.{length, take, drop, replicate, length-append, length-drop, length-replicate, take-append-drop}
use lib.Seq.{take_at, drop_at, drop-drop, length-take-le, take-add}
use Rattle.slices.specs.Slices.{Bytes, part}
use Rattle.shape.specs.Fields.{Field, size, slot, sizes, unpack, pack, all, is_zero, zero_padded, clean, clean_slots}
use Rattle.shape.proofs.PaddingLaws.{and_left, and_right, all_zero, zeros-all, padded-take, padded_front}

-- bytes of all fields in the unpacked form
unfoldable pub slots : List Field → ℕ
slots [] = 0
slots (f ∷ fs) = slot f + slots fs

-- what stands behind two parts
behind : (u k : ℕ) (a b : Bytes) → length a ≡ u → drop (u + k) (a ++ (replicate k 0 ++ b)) ≡ b
behind u k a b e =
    sym (drop-drop k u (a ++ (replicate k 0 ++ b)))
    ∙ (ap (drop k) (drop_at a _ u e) ∙ drop_at (replicate k 0) b k (length-replicate k 0))

-- ---- lengths

pub length-unpack : (fs : List Field) (s : Bytes) → sizes fs ≤ length s → length (unpack fs s) ≡ slots fs
unfolding unpack sizes slots
length-unpack [] s h = refl
length-unpack (f ∷ fs) s h =
    simp (
      length-append,
      length-replicate,
      length-take-le (size f) s (omega arith),
      length-unpack fs (drop (size f) s)
          (rw length-drop (omega arith)),
    )
    (omega arith)

pub length-pack : (fs : List Field) (x : Bytes) → slots fs ≤ length x → length (pack fs x) ≡ sizes fs
unfolding pack sizes slots
length-pack [] x h = refl
length-pack (f ∷ fs) x h =
    simp (length-append, length-take-le (size f) x (omega arith), length-pack fs (drop (slot f) x) (rw length-drop (omega arith)))

-- ---- back and forth

-- what is unpacked is packed again
pub pack-unpack : (fs : List Field) (s : Bytes) → sizes fs ≡ length s → pack fs (unpack fs s) ≡ s
unfolding pack unpack sizes
pack-unpack [] [] h = refl
pack-unpack [] (v ∷ s) h = absurd (omega arith)
pack-unpack (f ∷ fs) s h =
    let e : length (take (size f) s) ≡ size f = length-take-le (size f) s (omega arith) in
    rw (
      take_at (take (size f) s) _ (size f) e,
      behind (size f) f.blank (take (size f) s) _ e,
      pack-unpack fs (drop (size f) s) (rw length-drop (omega arith)),
    )
    (take-append-drop (size f) s)

-- what is packed from clean slots is unpacked again
pub unpack-pack : (fs : List Field) (x : Bytes) → slots fs ≡ length x → clean_slots fs x ≡ true → unpack fs (pack fs x) ≡ x
unfolding pack unpack slots clean_slots
unpack-pack [] [] h c = refl
unpack-pack [] (v ∷ x) h c = absurd (omega arith)
unpack-pack (f ∷ fs) x h c =
    let e : length (take (size f) x) ≡ size f = length-take-le (size f) x (omega arith) in
    let gap = part x (size f) f.blank in
    let g : length gap ≡ f.blank = length-take-le f.blank (drop (size f) x) (rw length-drop (omega arith)) in
    let c2 = and_right (zero_padded f.bits x) _ c in
    let z : replicate f.blank 0 ≡ gap = ap (λ (n : ℕ). replicate n 0) (sym g) ∙ all_zero gap (and_left _ _ c2) in
    let i = unpack-pack fs (drop (slot f) x) (rw length-drop (omega arith)) (and_right (all is_zero gap) _ c2) in
    rw (take_at (take (size f) x) _ (size f) e, drop_at (take (size f) x) _ (size f) e, i, z)
    (ap (λ (l : Bytes). take (size f) x ++ (gap ++ l)) (sym (drop-drop f.blank (size f) x))
    ∙ (ap (λ (l : Bytes). take (size f) x ++ l) (take-append-drop f.blank (drop (size f) x)) ∙ take-append-drop (size f) x))

-- what is packed from clean slots is clean
pub clean-pack : (fs : List Field) (x : Bytes) → slots fs ≤ length x → clean_slots fs x ≡ true → clean fs (pack fs x) ≡ true
unfolding pack slots clean clean_slots
clean-pack [] x h c = refl
clean-pack (f ∷ fs) x h c =
    let e : length (take (size f) x) ≡ size f = length-take-le (size f) x (omega arith) in
    let c2 = and_right (zero_padded f.bits x) _ c in
    let i = clean-pack fs (drop (slot f) x) (rw length-drop (omega arith)) (and_right (all is_zero (part x (size f) f.blank)) _ c2) in
    rw (
      padded_front f.bits (take (size f) x) (pack fs (drop (slot f) x)) e,
      padded-take f.bits x,
      and_left (zero_padded f.bits x) _ c,
      drop_at (take (size f) x) _ (size f) e,
    ) i

-- and what is unpacked from clean fields has clean slots
pub clean-unpack : (fs : List Field) (s : Bytes) → sizes fs ≤ length s → clean fs s ≡ true → clean_slots fs (unpack fs s) ≡ true
unfolding unpack sizes clean clean_slots
clean-unpack [] s h c = refl
clean-unpack (f ∷ fs) s h c =
    let e : length (take (size f) s) ≡ size f = length-take-le (size f) s (omega arith) in
    let i = clean-unpack fs (drop (size f) s) (rw length-drop (omega arith)) (and_right (zero_padded f.bits s) _ c) in
    rw (
      padded_front f.bits (take (size f) s) (replicate f.blank 0 ++ unpack fs (drop (size f) s)) e,
      padded-take f.bits s,
      and_left (zero_padded f.bits s) _ c,
      drop_at (take (size f) s) _ (size f) e,
      take_at (replicate f.blank 0) (unpack fs (drop (size f) s)) f.blank (length-replicate f.blank 0),
      zeros-all,
      behind (size f) f.blank (take (size f) s) _ e,
    ) i

-- ---- fields and more fields

module _ (gs : List Field) where
  pub sizes-append : (fs : List Field) → sizes (fs ++ gs) ≡ sizes fs + sizes gs
  unfolding sizes
  sizes-append [] = omega arith
  sizes-append (f ∷ fs) = omega (arith, sizes-append fs)

  pub slots_append : (fs : List Field) → slots (fs ++ gs) ≡ slots fs + slots gs
  unfolding slots
  slots_append [] = omega arith
  slots_append (f ∷ fs) = omega (arith, slots_append fs)

  pub unpack-append : (fs : List Field) (s : Bytes) → unpack (fs ++ gs) s ≡ unpack fs s ++ unpack gs (drop (sizes fs) s)
  unfolding unpack sizes
  unpack-append [] s = refl
  unpack-append (f ∷ fs) s = rw (unpack-append fs (drop (size f) s), drop-drop (sizes fs) (size f) s) (simp append_assoc)

  pub pack-append : (fs : List Field) (x : Bytes) → pack (fs ++ gs) x ≡ pack fs x ++ pack gs (drop (slots fs) x)
  unfolding pack slots
  pack-append [] x = refl
  pack-append (f ∷ fs) x = rw (pack-append fs (drop (slot f) x), drop-drop (slots fs) (slot f) x) (simp append_assoc)

  pub clean-append : (fs : List Field) (s : Bytes) → clean (fs ++ gs) s ≡ (clean fs s && clean gs (drop (sizes fs) s))
  unfolding clean sizes
  clean-append [] s = refl
  clean-append (f ∷ fs) s = rw (clean-append fs (drop (size f) s), drop-drop (sizes fs) (size f) s) (simp and_assoc)

  pub clean_slots-append : (fs : List Field) (x : Bytes) → clean_slots (fs ++ gs) x ≡ (clean_slots fs x && clean_slots gs (drop (slots fs) x))
  unfolding clean_slots slots
  clean_slots-append [] x = refl
  clean_slots-append (f ∷ fs) x = rw (clean_slots-append fs (drop (slot f) x), drop-drop (slots fs) (slot f) x) (simp and_assoc)

-- ---- fields with nothing blank: they stand alike in both forms

abbrev pub Tight : List Field → Type 0
Tight [] = Unit
Tight (f ∷ fs) = (f.blank ≡ 0) × Tight fs

pub unpack_tight : (fs : List Field) → Tight fs → (s : Bytes) → unpack fs s ≡ take (sizes fs) s
unfolding unpack sizes
unpack_tight [] h s = refl
unpack_tight (f ∷ fs) h s = rw (h.0, unpack_tight fs h.1 (drop (size f) s), take-add (size f) (sizes fs) s)

pub pack_tight : (fs : List Field) → Tight fs → (x : Bytes) → pack fs x ≡ take (sizes fs) x
unfolding pack sizes
pack_tight [] h x = refl
pack_tight (f ∷ fs) h x =
    let e : slot f ≡ size f = omega (arith, h.0) in
    rw (e, pack_tight fs h.1 (drop (size f) x), take-add (size f) (sizes fs) x)
