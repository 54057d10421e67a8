-- Laws of the room after a call: what was filled stands at its start, clearing leaves the rest, and which checks keep it.
use mathlib.Core.Path.{◌≡◌, refl, sym, ap, ◌∙◌}
use mathlib.Core.Bool.{Bool, true, false, cond}
use mathlib.Core.List.{List, [], ◌∷◌}
use Prim.Native.Nat.{ℕ}
use Rattle.std.proofs.Common.{Err}
use lib.Dec.{T}
use lib.ListN.{length, take, drop}
use lib.Seq.{take_at, drop_at}
use Rattle.slices.specs.Slices.{Bytes, over, cleared}
use Rattle.slices.proofs.SliceLaws.{cleared_rest}
use Rattle.sets.specs.declared.Set.{Set}
use Rattle.sets.specs.Lengths.{room_length}
use Rattle.answers.specs.declared.Refusal.{Refusal}
use Rattle.answers.specs.Answers.{Checked, Check, first}
use Rattle.room.specs.Room.{clears}

-- ---- a room that was filled with vs, as many bytes as are needed

module _ (p : Set) (vs room : Bytes) (l : length vs ≡ room_length p) {filled : Bytes} (e : filled ≡ over vs room) where
  -- by the code's length n
  pub filled_front : (n : ℕ) → n ≡ room_length p → take n filled ≡ vs
  unfolding over
  filled_front n q = rw q (ap (take (room_length p)) e ∙ take_at vs (drop (length vs) room) (room_length p) l)

  filled_rest : drop (room_length p) filled ≡ drop (room_length p) room
  unfolding over
  filled_rest =
      ap (drop (room_length p)) e ∙ (drop_at vs (drop (length vs) room) (room_length p) l ∙ ap (λ (n : ℕ). drop n room) l)

  pub filled-cleared : {after : Bytes} (n : ℕ) → n ≡ room_length p → after ≡ cleared n filled → after ≡ cleared (room_length p) room
  filled-cleared n q c = c ∙ (ap (λ (k : ℕ). cleared k filled) q ∙ cleared_rest (room_length p) filled room filled_rest)

-- ---- checks that keep the room

-- each check of a list keeps it
abbrev pub keeping : List Check → Bool
keeping [] = true
keeping (k ∷ ks) = cond (clears (Err k.gives)) false (keeping ks)

keeps_one : (b c : Bool) (g : Refusal) (x : Checked) (rest : Bool) {r : Refusal} → clears (Err g) ≡ c → T (cond c false rest)
    → (T rest → x ≡ Err r → clears (Err r) ≡ false) → cond b (Err g) x ≡ Err r → clears (Err r) ≡ false
keeps_one true false g x rest e t h f = ap clears (sym f) ∙ e
keeps_one false false g x rest e t h f = h t f
keeps_one b true g x rest e t h f = absurd t

-- and so does the first that holds
pub keeps_first : (ks : List Check) → T (keeping ks) → {r : Refusal} → first ks ≡ Err r → clears (Err r) ≡ false
unfolding first
keeps_first [] t {r} f = cc
keeps_first (k ∷ ks) t {r} f = keeps_one k.holds (clears (Err k.gives)) k.gives (first ks) (keeping ks) refl t (λ u. keeps_first ks u) f
