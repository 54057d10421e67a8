-- Laws of the S-boxes on words: what changes of a word is put in its places; a layer of a block is that of its first word.
use mathlib.Core.Path.{◌≡◌, refl, sym, ap, ap₂, ◌∙◌, fun_ext}
use mathlib.Core.Logic.{⊎_elim}
use mathlib.Core.Bool.{Bool}
use mathlib.Core.List.{List, [], ◌∷◌}
use Prim.Native.Nat.{ℕ, ◌+◌, ◌*◌, ◌/◌, ◌%◌, ◌^◌, ◌≤◌, ◌<◌}
use native.Mathlib.Omega.{arith}
use lib.Bits.{bit_xor, bit_and, xor_lt, and_lt}
use lib.ListN.{length, get_or}
use Rattle.bits.specs.Bits.{◌⊻◌, Bits, ◌⊕◌, Agree, up_to, from}
use Rattle.bits.specs.Words.{word_bits, list_bits, Holds}
use Rattle.bits.proofs.BitsLaws.{xor-rules, xor_false, ⊕_at, up_to_in, up_to_out, up_to_is}
use Rattle.bits.proofs.NumberLaws.{below}
use Rattle.bits.proofs.WordsLaws.{holds_self, holds_xor, holds_at, word_at, word_out, list_past, four_words}
use Rattle.circuit.specs.Lowmc.{in_three, sboxes}
use Rattle.circuit.specs.Gates.{left_factor, right_factor, sboxes_by}
use Rattle.circuit.proofs.LowmcLaws.{three_at_lem, in_three_xor, sboxes_in, sboxes_past, sboxes_cong}
use Rattle.circuit.proofs.GatesLaws.{left_cong, right_cong, sboxes_by_in, sboxes_by_past, sboxes_by_cong}
use Rattle.lowmc.specs.declared.Lanes.{Lanes}
use Rattle.lowmc.specs.Inner.{InWord, Laned}
use Rattle.lowmc.proofs.LaneLaws.{lane_xor, lane_and, places, lanes_placed}

-- ---- what changes of a word

-- c, b and a of the S-boxes that change by what three lanes have in their places
changed : (s : ℕ) (f F c b a : Bits) (x d : ℕ) → Holds f x → Holds (up_to (3 * s) (places c b a)) d
    → ((i : ℕ) → i < 3 * s
    → in_three (f (3 * (i / 3)) ⊻ c (3 * (i / 3))) (f (3 * (i / 3) + 1) ⊻ b (3 * (i / 3))) (f (3 * (i / 3) + 2) ⊻ a (3 * (i / 3))) (i % 3) ≡ F i)
    → ((i : ℕ) → 3 * s ≤ i → f i ≡ F i)
    → Holds F (bit_xor x d)
unfolding ◌⊕◌ places
changed s f F c b a x d p q inside outside i l =
    holds_xor f (up_to (3 * s) (places c b a)) x d p q i l
    ∙ ⊎_elim
    (λ (h : i < 3 * s).
    ap₂ ◌⊻◌ (three_at_lem f i) (up_to_in (3 * s) (places c b a) i h) ∙ (sym (in_three_xor _ _ _ _ _ _ (i % 3)) ∙ inside i h))
    (λ (h : 3 * s ≤ i). ap (λ (y : Bool). f i ⊻ y) (up_to_out (3 * s) (places c b a) i h) ∙ (xor_false (f i) ∙ outside i h))
    (below i (3 * s))

-- ---- the word of a layer

-- a, b, c of the S-box in whose three a place lies, by its first place
module _ (f : Bits) (i : ℕ) where
  at_a : from 2 f (3 * (i / 3)) ≡ f (3 * (i / 3) + 2)
  at_a = ap f (omega arith)

  at_b : from 1 f (3 * (i / 3)) ≡ f (3 * (i / 3) + 1)
  at_b = ap f (omega arith)

  left-placed : places (from 2 f) (from 1 f) f i ≡ left_factor f i
  unfolding places left_factor
  left-placed = λ k. in_three (at_a k) (at_b k) (f (3 * (i / 3))) (i % 3)

  right_placed : places (from 1 f) f (from 2 f) i ≡ right_factor f i
  unfolding places right_factor
  right_placed = λ k. in_three (at_b k) (f (3 * (i / 3))) (at_a k) (i % 3)

-- a word's lanes, and their numbers below 2 ^ 64
module _ (s x : ℕ) (l : Lanes) (L : Laned s (word_bits x) l) (fa : l.a < 2 ^ 64) (fb : l.b < 2 ^ 64) (fc : l.c < 2 ^ 64) where
  -- the S-boxes
  pub sbox-word : Holds (sboxes s (word_bits x))
      (bit_xor x
      (bit_xor
      (bit_xor (bit_xor (bit_xor l.a l.b) (bit_and l.a l.b)) (bit_xor l.a (bit_and l.c l.a) / 2 ^ 1))
      (bit_and l.b l.c / 2 ^ 2)))
  sbox-word =
      changed s (word_bits x) (sboxes s (word_bits x)) _ _ _ x _ (holds_self x)
      (lanes_placed s _ _ _ _ _ _ (xor_lt 64 _ _ fa (and_lt 64 _ _ fc fa)) (and_lt 64 _ _ fb fc)
      (lane_xor s _ _ _ _ (lane_xor s _ _ _ _ L.at_a L.at_b) (lane_and s _ _ _ _ L.at_a L.at_b))
      (lane_xor s _ _ _ _ L.at_a (lane_and s _ _ _ _ L.at_c L.at_a))
      (lane_and s _ _ _ _ L.at_b L.at_c))
      (λ i h. simp (⊕_at, at_a (word_bits x) i, at_b (word_bits x) i, xor-rules, sboxes_in s (word_bits x) i h))
      (λ i h. sym (sboxes_past s (word_bits x) i h))

  -- the S-boxes by given gates
  pub sbox-word_by : (t : ℕ) (g : Lanes) → Laned s (word_bits t) g → g.a < 2 ^ 64 → g.b < 2 ^ 64
      → Holds (sboxes_by s (word_bits x) (word_bits t))
      (bit_xor x (bit_xor (bit_xor (bit_xor (bit_xor l.a l.b) g.c) (bit_xor l.a g.a / 2 ^ 1)) (g.b / 2 ^ 2)))
  sbox-word_by t g G ga gb =
      changed s (word_bits x) (sboxes_by s (word_bits x) (word_bits t)) _ _ _ x _ (holds_self x)
      (lanes_placed s _ _ _ _ _ _ (xor_lt 64 _ _ fa ga) gb
      (lane_xor s _ _ _ _ (lane_xor s _ _ _ _ L.at_a L.at_b) G.at_c)
      (lane_xor s _ _ _ _ L.at_a G.at_a)
      G.at_b)
      (λ i h.
      simp (
        ⊕_at,
        at_a (word_bits x) i,
        at_b (word_bits x) i,
        at_a (word_bits t) i,
        at_b (word_bits t) i,
        xor-rules,
        sboxes_by_in s (word_bits x) (word_bits t) i h,
      ))
      (λ i h. sym (sboxes_by_past s (word_bits x) (word_bits t) i h))

  -- the factors of the gates
  pub left_word : Holds (up_to (3 * s) (left_factor (word_bits x))) (bit_xor (bit_xor l.a (l.b / 2 ^ 1)) (l.c / 2 ^ 2))
  left_word i b =
      lanes_placed s _ _ _ _ _ _ fb fc L.at_a L.at_b L.at_c i b
      ∙ ap (λ (y : Bits). up_to (3 * s) y i) (fun_ext λ j. left-placed (word_bits x) j)

  pub right_word : Holds (up_to (3 * s) (right_factor (word_bits x))) (bit_xor (bit_xor l.b (l.c / 2 ^ 1)) (l.a / 2 ^ 2))
  right_word i b =
      lanes_placed s _ _ _ _ _ _ fc fa L.at_b L.at_c L.at_a i b
      ∙ ap (λ (y : Bits). up_to (3 * s) y i) (fun_ext λ j. right_placed (word_bits x) j)

-- ---- a block's first word

-- its bits are the block's first
pub first_word : (ws : List ℕ) → Agree 64 (word_bits (get_or ws 0 0)) (list_bits ws)
first_word ws i h = sym (word_at ws 0 i h) ∙ ap (list_bits ws) (omega arith)

-- a block with another first word
top_word : (ws : List ℕ) (F : Bits) (y : ℕ) → length ws ≡ 4 → Holds F y → ((i : ℕ) → 64 ≤ i → F i ≡ list_bits ws i)
    → list_bits (y ∷ get_or ws 1 0 ∷ get_or ws 2 0 ∷ get_or ws 3 0 ∷ []) ≡ F
top_word ws F y n h rest =
    four_words F y _ _ _ (λ i l. h i l ∙ ap F (omega arith)) (other 1 (omega arith)) (other 2 (omega arith)) (other 3 (omega arith))
    (λ i l. rest i (omega arith) ∙ list_past ws i (omega arith))
  where
    other : (k : ℕ) → 1 ≤ k → Holds (from (64 * k) F) (get_or ws k 0)
    other k l i b = holds_at ws k i b ∙ sym (rest (64 * k + i) (omega arith))

-- what is computed of the first word, as what a layer does to the block
module _ (s : ℕ) (h : InWord s) (ws : List ℕ) (n : length ws ≡ 4) (y : ℕ) where
  pub sboxes_block : Holds (sboxes s (word_bits (get_or ws 0 0))) y
      → list_bits (y ∷ get_or ws 1 0 ∷ get_or ws 2 0 ∷ get_or ws 3 0 ∷ []) ≡ sboxes s (list_bits ws)
  sboxes_block p =
      top_word ws (sboxes s (list_bits ws)) y n
      (λ i l. p i l ∙ sboxes_cong s 64 _ _ (omega arith) (first_word ws) i l)
      (λ i l. sboxes_past s (list_bits ws) i (omega arith))

  pub sboxes_by_block : (t : Bits) → Holds (sboxes_by s (word_bits (get_or ws 0 0)) t) y
      → list_bits (y ∷ get_or ws 1 0 ∷ get_or ws 2 0 ∷ get_or ws 3 0 ∷ []) ≡ sboxes_by s (list_bits ws) t
  sboxes_by_block t p =
      top_word ws (sboxes_by s (list_bits ws) t) y n
      (λ i l. p i l ∙ sboxes_by_cong s 64 _ _ t t (omega arith) (first_word ws) (λ j b. refl) i l)
      (λ i l. sboxes_by_past s (list_bits ws) t i (omega arith))

  -- a word that holds 3s bits of a string
  row_of : (f g : Bits) → Agree (3 * s) f g → Holds (up_to (3 * s) f) y → word_bits y ≡ up_to (3 * s) g
  row_of f g e p =
      up_to_is (3 * s) g (word_bits y)
      (λ i l. p i (omega arith) ∙ (up_to_in (3 * s) f i l ∙ e i l))
      (λ i l. ⊎_elim (λ (q : i < 64). p i q ∙ up_to_out (3 * s) f i l) (λ (q : 64 ≤ i). word_out y i q) (below i 64))

  pub left_block : Holds (up_to (3 * s) (left_factor (word_bits (get_or ws 0 0)))) y → word_bits y ≡ up_to (3 * s) (left_factor (list_bits ws))
  left_block = row_of _ _ (left_cong s _ _ (λ i l. first_word ws i (omega arith)))

  pub right_block : Holds (up_to (3 * s) (right_factor (word_bits (get_or ws 0 0)))) y → word_bits y ≡ up_to (3 * s) (right_factor (list_bits ws))
  right_block = row_of _ _ (right_cong s _ _ (λ i l. first_word ws i (omega arith)))
