-- Laws of lanes: the bits c, b, a of the S-boxes, each at its S-box's first place; and words put together from lanes.
use mathlib.Core.Path.{◌≡◌, refl, sym, ap, ap₂, ◌∙◌}
use mathlib.Core.Logic.{⊎_elim}
use mathlib.Core.Bool.{Bool, true, false, ◌&&◌}
use Prim.Native.Nat.{ℕ, ◌+◌, ◌-◌, ◌*◌, ◌/◌, ◌%◌, ◌^◌, ◌≤◌, ◌<◌}
use native.Mathlib.Omega.{arith}
use lib.Bits.{bit_xor, bit_and}
use lib.Dec.{ltb, eqb}
use borrow.Author.Tests.{lt-ltb, le-ltb, eq-eqb, ne_eqb}
use Rattle.bits.specs.Bits.{◌⊻◌, Bits, ◌⊕◌, Agree, up_to, from}
use Rattle.bits.specs.Bytes.{bit, odd}
use Rattle.bits.specs.Words.{word_bits, Holds}
use Rattle.bits.proofs.BitsLaws.{up_to_cong, xor_false, false_xor, and_xor}
use Rattle.bits.proofs.NumberLaws.{below}
use Rattle.bits.proofs.WordsLaws.{holds_self, holds_and, holds_xor, holds_shr, holds-shl, back, back_at, back_out, ahead_at, ahead_out, word_out, keep_top}
use Rattle.bits.proofs.Computed.{computed}
use Rattle.circuit.specs.Lowmc.{in_three}
use Rattle.circuit.proofs.LowmcLaws.{by_place, group, group0}
use Rattle.lowmc.specs.Inner.{InWord, starts, at_starts}

-- ---- the mask

-- every third place of a word
abbrev pub thirds : ℕ
thirds = 0x9249_2492_4924_9249

-- its rule at each of its 64 places, computed
thirds_rule : Agree 64 (word_bits thirds) (λ i. eqb (i % 3) 0)
unfolding word_bits bit odd up_to
thirds_rule = computed (word_bits thirds) (λ i. eqb (i % 3) 0) 64 tt

-- moved back and ahead again, it has the first places of s S-boxes
pub starts-holds : (s : ℕ) → InWord s → Holds (starts s) (thirds / 2 ^ (64 - 3 * s) * 2 ^ (64 - 3 * s) % 2 ^ 64)
unfolding starts
starts-holds s h i l =
    ap (λ (f : Bits). f i)
    (keep_top (3 * s) thirds (omega arith) (omega arith) ∙ up_to_cong (3 * s) _ _ (λ j b. thirds_rule j (omega arith)))

-- ---- lanes

-- what a shift ahead of a word holds
pub from-holds : (d x : ℕ) → Holds (from d (word_bits x)) (x * 2 ^ d % 2 ^ 64)
from-holds d x i l =
    holds-shl d (word_bits x) x (holds_self x) i l
    ∙ ⊎_elim (λ (h : i + d < 64). ahead_at d (word_bits x) i h ∙ ap (word_bits x) (omega arith))
    (λ (h : 64 ≤ i + d). ahead_out d (word_bits x) i h ∙ sym (word_out x (d + i) (omega arith)))
    (below (i + d) 64)

pub lane-holds : (s : ℕ) (f : Bits) (m x : ℕ) → Holds (starts s) m → Holds f x → Holds (at_starts s f) (bit_and m x)
unfolding at_starts
lane-holds s f m x p q = holds_and (starts s) f m x p q

and_both : (m a b : Bool) → ((m && a) && (m && b)) ≡ (m && (a && b))
and_both true a b = refl
and_both false a b = refl

module _ (s : ℕ) (f g : Bits) (x y : ℕ) (p : Holds (at_starts s f) x) (q : Holds (at_starts s g) y) where
  pub lane_xor : Holds (at_starts s (f ⊕ g)) (bit_xor x y)
  unfolding at_starts ◌⊕◌
  lane_xor i l = holds_xor _ _ x y p q i l ∙ sym (and_xor (starts s i) (f i) (g i))

  pub lane_and : Holds (at_starts s (λ i. f i && g i)) (bit_and x y)
  unfolding at_starts
  lane_and i l = holds_and _ _ x y p q i l ∙ and_both (starts s i) (f i) (g i)

-- ---- three lanes put in the places of their S-boxes

-- what three lanes make
unfoldable pub places : (f g h : Bits) → Bits
places f g h i = in_three (f (3 * (i / 3))) (g (3 * (i / 3))) (h (3 * (i / 3))) (i % 3)

-- elsewhere a lane is zero
lane_off : (s : ℕ) (f : Bits) (i : ℕ) → (i % 3 ≡ 0 → ⊥) → at_starts s f i ≡ false
unfolding at_starts starts up_to
lane_off s f i h = rw (ne_eqb (i % 3) 0 h) (zero_and (ltb i (3 * s)) (f i))
  where
    zero_and : (b a : Bool) → ((b && false) && a) ≡ false
    zero_and true a = refl
    zero_and false a = refl

-- at the first place of a three it has its bit, if the three is one of the S-boxes
lane_on : (s : ℕ) (f : Bits) (q k : ℕ) → k < 3 → at_starts s f (3 * q) ≡ (ltb (3 * q + k) (3 * s) && f (3 * q))
unfolding at_starts starts up_to
lane_on s f q k h =
    ⊎_elim
    (λ (l : q < s). rw (eq-eqb (3 * q % 3) 0 (omega arith), lt-ltb (3 * q) (3 * s) (omega arith), lt-ltb (3 * q + k) (3 * s) (omega arith)))
    (λ (l : s ≤ q). rw (le-ltb (3 * q) (3 * s) (omega arith), le-ltb (3 * q + k) (3 * s) (omega arith)))
    (below q s)

-- a lane moved back by d places is zero where its bits are not moved to
back_off : (s : ℕ) (f : Bits) (d i : ℕ) → ((i - d) % 3 ≡ 0 → d ≤ i → ⊥) → back d (at_starts s f) i ≡ false
back_off s f d i h =
    ⊎_elim (λ (l : i < d). back_out d (at_starts s f) i l) (λ (l : d ≤ i). back_at d (at_starts s f) i l ∙ lane_off s f (i - d) (λ e. h e l)) (below i d)

module _ (s : ℕ) (f g h : Bits) where
  at_first : (q : ℕ) → (at_starts s f (3 * q) ⊻ back 1 (at_starts s g) (3 * q)) ⊻ back 2 (at_starts s h) (3 * q) ≡ up_to (3 * s) (places f g h) (3 * q)
  unfolding places up_to in_three
  at_first q =
      let e : 3 * q + 0 ≡ 3 * q = omega arith in
      ap₂ ◌⊻◌ (ap (λ (b : Bool). at_starts s f (3 * q) ⊻ b) (back_off s g 1 (3 * q) (λ e l. omega arith)) ∙ xor_false _) (back_off s h 2 (3 * q) (λ e l. omega arith))
      ∙ (xor_false _ ∙ (lane_on s f q 0 (omega arith) ∙ rw (e, (group0 q).0, (group0 q).1)))

  at_second : (q : ℕ) → (at_starts s f (3 * q + 1) ⊻ back 1 (at_starts s g) (3 * q + 1)) ⊻ back 2 (at_starts s h) (3 * q + 1) ≡ up_to (3 * s) (places f g h) (3 * q + 1)
  unfolding places up_to in_three
  at_second q =
      let e : 3 * q + 1 - 1 ≡ 3 * q = omega arith in
      ap₂ ◌⊻◌ (ap₂ ◌⊻◌ (lane_off s f (3 * q + 1) (λ e. omega arith)) (back_at 1 (at_starts s g) (3 * q + 1) (omega arith) ∙ ap (at_starts s g) e) ∙ false_xor _)
      (back_off s h 2 (3 * q + 1) (λ e l. omega arith))
      ∙ (xor_false _ ∙ (lane_on s g q 1 (omega arith) ∙ rw ((group q 1 (omega arith)).0, (group q 1 (omega arith)).1)))

  at_third : (q : ℕ) → (at_starts s f (3 * q + 2) ⊻ back 1 (at_starts s g) (3 * q + 2)) ⊻ back 2 (at_starts s h) (3 * q + 2) ≡ up_to (3 * s) (places f g h) (3 * q + 2)
  unfolding places up_to in_three
  at_third q =
      let e : 3 * q + 2 - 2 ≡ 3 * q = omega arith in
      ap₂ ◌⊻◌ (ap₂ ◌⊻◌ (lane_off s f (3 * q + 2) (λ e. omega arith)) (back_off s g 1 (3 * q + 2) (λ e l. omega arith)) ∙ xor_false false)
      (back_at 2 (at_starts s h) (3 * q + 2) (omega arith) ∙ ap (at_starts s h) e)
      ∙ (false_xor _ ∙ (lane_on s h q 2 (omega arith) ∙ rw ((group q 2 (omega arith)).0, (group q 2 (omega arith)).1)))

  -- the code's word of three lanes
  pub lanes_placed : (x y z : ℕ) → y < 2 ^ 64 → z < 2 ^ 64 → Holds (at_starts s f) x → Holds (at_starts s g) y → Holds (at_starts s h) z
      → Holds (up_to (3 * s) (places f g h)) (bit_xor (bit_xor x (y / 2 ^ 1)) (z / 2 ^ 2))
  unfolding ◌⊕◌
  lanes_placed x y z hy hz p q r i l =
      holds_xor _ _ _ _ (holds_xor _ _ _ _ p (holds_shr 1 (at_starts s g) y hy q)) (holds_shr 2 (at_starts s h) z hz r) i l
      ∙ by_place (λ j. (at_starts s f j ⊻ back 1 (at_starts s g) j) ⊻ back 2 (at_starts s h) j ≡ up_to (3 * s) (places f g h) j) at_first at_second at_third i
