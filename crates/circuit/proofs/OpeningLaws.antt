-- What a verifier makes of an honest opening; and the key from three openings that agree.
use mathlib.Core.Path.{◌≡◌, refl, sym, ap₂, ◌∙◌}
use mathlib.Core.Bool.{Bool}
use Prim.Native.Nat.{ℕ, zero, suc, ◌<◌, ◌≤◌}
use native.Mathlib.Nat.{le_refl}
use native.Mathlib.Omega.{arith}
use Rattle.bits.specs.Bits.{◌⊻◌, Bits, ◌⊕◌, Agree}
use Rattle.bits.specs.Rows.{Rows}
use Rattle.bits.proofs.BitsLaws.{xor-rules, ⊕_at, ⊕-rules}
use Rattle.circuit.specs.Lowmc.{Cipher, start, state_after, encryption}
use Rattle.circuit.specs.Round.{Party, party0, party1, party2, next, third, gates, advance, into_share, state_share, transcript, output_share, into_first, into_second, Opening, state₁, state₂, transcript₁, output₁, output₂, output₃}
use Rattle.circuit.specs.RoundTheorems.{xor3, SameGates, Opened, OpeningRecomputes, Agreeing, OpeningsYieldKey}
use Rattle.circuit.proofs.RoundLaws.{advance_cong, replay, run, Meets, sound, signer_encrypts}

-- the verifier's rule for constants is the signer's
second_constant : (e : Party) (c : Bits) → into_second e c ≡ into_share (next e) c
second_constant party0 c = refl
second_constant party1 c = refl
second_constant party2 c = refl

first_constant : (e : Party) (c : Bits) → into_first e c ≡ into_share e c
first_constant party0 c = refl
first_constant party1 c = refl
first_constant party2 c = refl

-- ---- the third share is the XOR of two and of the whole

module _ (x y z : Bits) where
  last0 : x ⊕ y ⊕ x ⊕ y ⊕ z ≡ z
  last0 = simp ⊕-rules

  last1 : y ⊕ z ⊕ x ⊕ y ⊕ z ≡ x
  last1 = simp ⊕-rules

  last2 : z ⊕ x ⊕ x ⊕ y ⊕ z ≡ y
  last2 = simp ⊕-rules

third_is : (e : Party) (f : Party → Bits) → f e ⊕ f (next e) ⊕ xor3 f ≡ f (third e)
unfolding xor3
third_is party0 f = last0 (f party0) (f party1) (f party2)
third_is party1 f = last1 (f party0) (f party1) (f party2)
third_is party2 f = last2 (f party0) (f party1) (f party2)

third_at : (e : Party) (f : Party → Bits) (i : ℕ) → f e i ⊻ f (next e) i ⊻ xor3 f i ≡ f (third e) i
unfolding ◌⊕◌
third_at e f i = λ k. third_is e f k i

-- ---- an opening of the signer's round

module _ (C : Cipher) (p : Bits) (x : Party → Bits) (tape : Party → Rows) (e : Party) (o : Opening) (h : Opened C p x tape e o) where
  state₂_is : (i : ℕ) → i ≤ C.r → state₂ C p e o i ≡ state_share C p x tape i (next e)
  unfolding state₂ state_share transcript
  state₂_is zero l = λ k. start C (h.share₂ k) (second_constant e p k)
  state₂_is (suc i) l =
      advance_cong C i _ _ _ _ _ (h.transcript₂ i l)
      ∙ λ k. advance C i (h.share₂ k) (second_constant e (C.roundconstant i) k) (state₂_is i (omega arith) k) (transcript C p x tape (next e) i)

  state₁_is : (i : ℕ) → i ≤ C.r → state₁ C p e o i ≡ state_share C p x tape i e
  unfolding state₁ state_share
  state₁_is zero l = λ k. start C (h.share₁ k) (first_constant e p k)
  state₁_is (suc i) l = λ k.
      advance C i (h.share₁ k) (first_constant e (C.roundconstant i) k) (state₁_is i (omega arith) k)
      (gates (state₁_is i (omega arith) k) (state₂_is i (omega arith) k) (h.tape₁ k i) (h.tape₂ k i))

  transcript₁_is : (i : ℕ) → i < C.r → transcript₁ C p e o i ≡ transcript C p x tape e i
  unfolding transcript₁ transcript
  transcript₁_is i l = λ k. gates (state₁_is i (omega arith) k) (state₂_is i (omega arith) k) (h.tape₁ k i) (h.tape₂ k i)

  output₁_is : output₁ C p e o ≡ output_share C p x tape e
  unfolding output₁ output_share
  output₁_is = state₁_is C.r (le_refl C.r)

  output₂_is : output₂ C p e o ≡ output_share C p x tape (next e)
  unfolding output₂ output_share
  output₂_is = state₂_is C.r (le_refl C.r)

  output₃_is : (c : Bits) (i : ℕ) → encryption C (xor3 x) p i ≡ c i → output₃ C p e o c i ≡ output_share C p x tape (third e) i
  unfolding output₃
  output₃_is c i q =
      rw (⊕_at, ⊕_at, output₁_is, output₂_is, ← q, ← signer_encrypts C p x tape) (third_at e (output_share C p x tape) i)

pub opening_recomputes : OpeningRecomputes
unfolding OpeningRecomputes
opening_recomputes C p c x tape e o h = record {
  transcript = transcript₁_is C p x tape e o h;
  first = output₁_is C p x tape e o h;
  second = output₂_is C p x tape e o h;
  last = output₃_is C p x tape e o h c;
}

-- ---- three openings that agree

solve : (a b c d : Bool) → a ⊻ b ⊻ c ≡ d → a ⊻ b ⊻ d ≡ c
solve a b c d h = rw (← h) (simp xor-rules)

module _ (C : Cipher) (p c : Bits) (o : Party → Opening) (y : Party → Bits) (a : Agreeing C p c o y) where
  xs : Party → Bits
  xs j = (o j).share₁

  tapes : Party → Rows
  tapes j = (o j).tape₁

  given : Party → Rows
  given j = (o (third j)).transcript₂

  second_replays : (e : Party) (i : ℕ) → state₂ C p e (o e) i ≡ replay C p (next e) (o e).share₂ (o e).transcript₂ i
  unfolding state₂ replay
  second_replays e zero = λ k. start C (o e).share₂ (second_constant e p k)
  second_replays e (suc i) = λ k.
      advance C i (o e).share₂ (second_constant e (C.roundconstant i) k) (second_replays e i k) ((o e).transcript₂ i)

  seconds : (j : Party) (i : ℕ) → state₂ C p j (o j) i ≡ run C p xs tapes given (next j) i
  unfolding run xs given
  seconds party0 i = simp (second_replays, a.share)
  seconds party1 i = simp (second_replays, a.share)
  seconds party2 i = simp (second_replays, a.share)

  given_is : (j : Party) → SameGates C (transcript₁ C p j (o j)) (given j)
  unfolding given
  given_is party0 = a.transcript party2
  given_is party1 = a.transcript party0
  given_is party2 = a.transcript party1

  firsts : (j : Party) (i : ℕ) → i ≤ C.r → state₁ C p j (o j) i ≡ run C p xs tapes given j i
  unfolding state₁ run replay xs transcript₁
  firsts j zero l = simp first_constant
  firsts j (suc i) l =
      advance_cong C i _ _ _ _ _ (given_is j i l)
      ∙ ap₂ (λ (d x : Bits). advance C i (xs j) d x (given j i)) (first_constant j (C.roundconstant i)) (firsts j i (omega arith))

  openings_meet : (j : Party) → Meets C p xs tapes given j
  unfolding Meets tapes transcript₁
  openings_meet j i l g b =
      sym (given_is j i l g b) ∙ λ k. gates (firsts j i (omega arith) k) (seconds j i k) (tapes j i) (sym (a.tape j) k i) g

  shares_of_key : Agree C.n (encryption C (xor3 (λ j. (o j).share₁)) p) c
  unfolding encryption output₁ output₂ output₃ xs
  shares_of_key i l =
      let r = C.r in
      let sum : run C p xs tapes given party0 r ⊕ run C p xs tapes given party1 r ⊕ run C p xs tapes given party2 r ≡ state_after C (xor3 xs) p r
      = sound C p xs tapes given openings_meet r (le_refl r) in
      let e0 = firsts party0 r (le_refl r) in
      let e1 = seconds party0 r in
      let e2 = firsts party2 r (le_refl r) in
      let third = a.last party0 i l ∙ sym (a.output party2 i l) in
      rw (← sum, ← e0, ← e1, ← e2, ⊕_at, ⊕_at) (solve _ _ _ _ (simp ⊕_at at third))

pub openings_yield_key : OpeningsYieldKey
unfolding OpeningsYieldKey
openings_yield_key = shares_of_key
