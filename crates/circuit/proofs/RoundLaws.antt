-- Three parties that follow transcripts in which each gate's bit is the one that the gate asks for: their shares are shares of
-- LowMC's state. The signer's round is one such run.
use mathlib.Core.Path.{◌≡◌, refl, sym, ap, ◌∙◌, fun_ext}
use mathlib.Core.Logic.{⊎_elim}
use mathlib.Core.Bool.{Bool, ◌&&◌}
use Prim.Native.Nat.{ℕ, zero, suc, ◌+◌, ◌*◌, ◌/◌, ◌<◌, ◌≤◌}
use native.Mathlib.Nat.{le_refl}
use native.Mathlib.Omega.{arith}
use Rattle.bits.specs.Bits.{◌⊻◌, Bits, ◌⊕◌, zeros, Agree}
use Rattle.bits.specs.Rows.{Rows}
use Rattle.bits.proofs.BitsLaws.{ring, ⊕_at, ⊕-rules, ⊕_zeros}
use Rattle.bits.proofs.NumberLaws.{below}
use Rattle.circuit.specs.Lowmc.{Cipher, start, step, state_after, encryption}
use Rattle.circuit.specs.Gates.{left_factor, right_factor, sboxes_by}
use Rattle.circuit.specs.Round.{Party, party0, party1, party2, next, gate, gates, advance, into_share, state_share, transcript, output_share}
use Rattle.circuit.specs.RoundTheorems.{xor3, SameGates, OutputsEncrypt}
use Rattle.circuit.proofs.MatricesLaws.{product_xor}
use Rattle.circuit.proofs.GatesLaws.{left_xor, right_xor, products, sboxes_by_xor, sboxes_by_in, sboxes_by_past, sboxes_are}

-- ---- what is linear in the shares

module _ (C : Cipher) where
  start_xor : (k k' c c' : Bits) → start C (k ⊕ k') (c ⊕ c') ≡ start C k c ⊕ start C k' c'
  unfolding start
  start_xor k k' c c' = simp (product_xor, ⊕-rules)

  advance_xor : (i : ℕ) (k k' c c' x x' t t' : Bits)
      → advance C i (k ⊕ k') (c ⊕ c') (x ⊕ x') (t ⊕ t') ≡ advance C i k c x t ⊕ advance C i k' c' x' t'
  unfolding advance
  advance_xor i k k' c c' x x' t t' = simp (sboxes_by_xor, product_xor, ⊕-rules)

sboxes_by-gates : (s : ℕ) (x t u : Bits) → Agree (3 * s) t u → sboxes_by s x t ≡ sboxes_by s x u
sboxes_by-gates s x t u h = fun_ext λ i.
    ⊎_elim
    (λ (l : i < 3 * s).
    sboxes_by_in s x t i l
    ∙ (rw (h (3 * (i / 3)) (omega arith), h (3 * (i / 3) + 1) (omega arith), h (3 * (i / 3) + 2) (omega arith)) (sym (sboxes_by_in s x u i l))))
    (λ (l : 3 * s ≤ i). sboxes_by_past s x t i l ∙ sym (sboxes_by_past s x u i l))
    (below i (3 * s))

-- a round asks for the first 3s of the gates alone
pub advance_cong : (C : Cipher) (i : ℕ) (k c x t u : Bits) → Agree (3 * C.s) t u → advance C i k c x t ≡ advance C i k c x u
unfolding advance
advance_cong C i k c x t u h = rw (sboxes_by-gates C.s x t u h)

-- ---- gates of three parties

-- the XOR of the three parties' gates is the product
gate_xor : (a0 a1 a2 b0 b1 b2 r0 r1 r2 : Bool)
    → gate a0 a1 b0 b1 r0 r1 ⊻ gate a1 a2 b1 b2 r1 r2 ⊻ gate a2 a0 b2 b0 r2 r0 ≡ (a0 ⊻ a1 ⊻ a2) && (b0 ⊻ b1 ⊻ b2)
unfolding gate
gate_xor a0 a1 a2 b0 b1 b2 r0 r1 r2 = simp ring

products_at : (x : Bits) (g : ℕ) → products x g ≡ (left_factor x g && right_factor x g)
unfolding products
products_at x g = refl

gates_xor : (x y z r s t : Bits) → gates x y r s ⊕ gates y z s t ⊕ gates z x t r ≡ products (x ⊕ y ⊕ z)
unfolding gates
gates_xor x y z r s t = fun_ext λ i. simp (products_at, left_xor, right_xor, ⊕_at, gate_xor)

-- one round of the three is one round of LowMC
advance_sound : (C : Cipher) (i : ℕ) (k l m c x y z r s t f g h : Bits)
    → Agree (3 * C.s) f (gates x y r s) → Agree (3 * C.s) g (gates y z s t) → Agree (3 * C.s) h (gates z x t r)
    → advance C i k c x f ⊕ advance C i l zeros y g ⊕ advance C i m zeros z h
    ≡ advance C i (k ⊕ l ⊕ m) c (x ⊕ y ⊕ z) (products (x ⊕ y ⊕ z))
advance_sound C i k l m c x y z r s t f g h u v w =
    rw (
      advance_cong C i k c x f (gates x y r s) u,
      advance_cong C i l zeros y g (gates y z s t) v,
      advance_cong C i m zeros z h (gates z x t r) w,
    )
    (simp (← advance_xor, gates_xor, ⊕_zeros))

-- LowMC's own round is the one whose gates give their products
state-step : (C : Cipher) (k p : Bits) (i : ℕ)
    → advance C i k (C.roundconstant i) (state_after C k p i) (products (state_after C k p i)) ≡ state_after C k p (suc i)
unfolding advance state_after step
state-step C k p i = rw sboxes_are

start_is : (C : Cipher) (k p : Bits) → start C k p ≡ state_after C k p 0
unfolding state_after
start_is C k p = refl

-- ---- three parties by their transcripts

-- a party's share of the state by a given transcript
unfoldable pub replay : (C : Cipher) (p : Bits) (j : Party) (x : Bits) (t : Rows) → ℕ → Bits
replay C p j x t zero = start C x (into_share j p)
replay C p j x t (suc i) = advance C i x (into_share j (C.roundconstant i)) (replay C p j x t i) (t i)

module _ (C : Cipher) (p : Bits) (x : Party → Bits) (tape t : Party → Rows) where
  unfoldable pub run : Party → ℕ → Bits
  run j = replay C p j (x j) (t j)

  -- party j's transcript has what its gates ask for
  unfoldable pub Meets : Party → Type 0
  Meets j = SameGates C (t j) (λ i. gates (run j i) (run (next j) i) (tape j i) (tape (next j) i))

  pub sound : ((j : Party) → Meets j) → (i : ℕ) → i ≤ C.r → run party0 i ⊕ run party1 i ⊕ run party2 i ≡ state_after C (xor3 x) p i
  unfolding run Meets replay xor3
  sound h zero l = simp (← start_xor, ⊕-rules) (start_is C (xor3 x) p)
  sound h (suc i) l =
      advance_sound C i _ _ _ _ _ _ _ _ _ _ _ _ _ (h party0 i l) (h party1 i l) (h party2 i l)
      ∙ (ap (λ (y : Bits). advance C i (xor3 x) (C.roundconstant i) y (products y)) (sound h i (omega arith)) ∙ state-step C (xor3 x) p i)

-- ---- the signer's round

module _ (C : Cipher) (p : Bits) (x : Party → Bits) (tape : Party → Rows) where
  replays : (i : ℕ) (j : Party) → state_share C p x tape i j ≡ replay C p j (x j) (transcript C p x tape j) i
  unfolding state_share replay transcript
  replays zero j = refl
  replays (suc i) j = ap (λ (y : Bits). advance C i (x j) (into_share j (C.roundconstant i)) y (transcript C p x tape j i)) (replays i j)

  meets : (j : Party) → Meets C p x tape (transcript C p x tape) j
  unfolding Meets transcript run
  meets j i l g b = simp (← replays)

  -- after each round their shares XOR to LowMC's state
  pub signer_follows : (i : ℕ) → i ≤ C.r → xor3 (state_share C p x tape i) ≡ state_after C (xor3 x) p i
  unfolding xor3 run
  signer_follows i l = simp replays (sound C p x tape (transcript C p x tape) meets i l)

  pub signer_encrypts : xor3 (output_share C p x tape) ≡ encryption C (xor3 x) p
  unfolding xor3 output_share encryption
  signer_encrypts = signer_follows C.r (le_refl C.r)

pub outputs-encrypt : OutputsEncrypt
unfolding OutputsEncrypt
outputs-encrypt C p share tape = signer_encrypts C p share tape
