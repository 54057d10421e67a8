-- Cited by inner contracts alone: rows of whole words, and the bits of S-boxes in lanes.
use Rattle.std.specs.Prelude.{◌≡◌, ◌&&◌, ℕ, ◌*◌, ◌%◌, ◌≤◌, ◌<◌, eqb}
use Rattle.bits.specs.Bits.{Bits, from, up_to}
use Rattle.bits.specs.Words.{Holds}
use Rattle.lowmc.specs.declared.Lanes.{Lanes}

-- w bytes are two, three or four words
pub record Words (w : ℕ) : Type 0 where
  pub whole : w % 8 ≡ 0
  pub least : 16 ≤ w
  pub most : w ≤ 32

-- s S-boxes lie in one word, and do not fill it
pub record InWord (s : ℕ) : Type 0 where
  pub some : 0 < s
  pub fits : 3 * s < 64

-- the first places of the S-boxes: 0, 3, 6, .. below 3s
unfoldable pub starts : ℕ → Bits
starts s = up_to (3 * s) (λ i. eqb (i % 3) 0)

-- the bits of f at these places, zero bits elsewhere
unfoldable pub at_starts : ℕ → Bits → Bits
at_starts s f i = starts s i && f i

-- the bits c, b, a of the S-boxes on f, each at its S-box's first place
pub record Laned (s : ℕ) (f : Bits) (l : Lanes) : Type 0 where
  pub at_c : Holds (at_starts s f) l.c
  pub at_b : Holds (at_starts s (from 1 f)) l.b
  pub at_a : Holds (at_starts s (from 2 f)) l.a
