-- A round over bits, as "A round" of 01 has it: the signer's three parties, and the two that a verifier recomputes.
-- Tapes and transcripts are in rows: row i has the 3s bits of the AND gates of LowMC's round i.
use Rattle.std.specs.Prelude.{Bool, ◌&&◌, ℕ, zero, suc, ◌+◌}
use Rattle.bits.specs.Bits.{◌⊻◌, Bits, ◌⊕◌, zeros}
use Rattle.bits.specs.Rows.{Rows}
use Rattle.circuit.specs.Matrices.{product}
use Rattle.circuit.specs.Lowmc.{Cipher, start}
use Rattle.circuit.specs.Gates.{left_factor, right_factor, sboxes_by}

-- a party's number, and a challenge value: 0, 1 or 2
pub data Party : Type 0 where
  party0 party1 party2 : Party

-- e+1 mod 3
abbrev pub next : Party → Party
next party0 = party1
next party1 = party2
next party2 = party0

-- e+2 mod 3, the party that challenge e does not open
abbrev pub third : Party → Party
third e = next (next e)

-- one of three, by the party
abbrev pub by_party : {A : Type 0} → (a b c : A) → Party → A
by_party a b c party0 = a
by_party a b c party1 = b
by_party a b c party2 = c

-- ---- gates

-- c_i = a_i b_k XOR a_k b_i XOR a_i b_i XOR r_i XOR r_k
unfoldable pub gate : (ai ak bi bk ri rk : Bool) → Bool
gate ai ak bi bk ri rk = (ai && bk) ⊻ (ak && bi) ⊻ (ai && bi) ⊻ ri ⊻ rk

-- a row of gates, in the order ab, bc, ca: for party i with the state x and the tape bits r, and party k with x' and r'
unfoldable pub gates : (x x' r r' : Bits) → Bits
gates x x' r r' g = gate (left_factor x g) (left_factor x' g) (right_factor x g) (right_factor x' g) (r g) (r' g)

-- the row of gates of party i, with k = i+1 mod 3, from the parties' states x and tape bits r
abbrev pub gates_of : (x r : Party → Bits) → Party → Bits
gates_of x r i = gates (x i) (x (next i)) (r i) (r (next i))

-- LowMC's round i on a share: S-boxes by the row t of the transcript, Lmatrix[i], the share c of roundconstant[i], and
-- Kmatrix[i+1] times the input share
unfoldable pub advance : Cipher → ℕ → (share c state t : Bits) → Bits
advance L i share c state t = product L.n (L.Lmatrix i) (sboxes_by L.s state t) ⊕ c ⊕ product L.n (L.Kmatrix (i + 1)) share

-- ---- the signer's round, from the input shares and the tapes' bits for the gates

-- public constants go into share 0 alone
abbrev pub into_share : Party → Bits → Bits
into_share party0 c = c
into_share party1 c = zeros
into_share party2 c = zeros

module _ (L : Cipher) (p : Bits) (share : Party → Bits) (tape : Party → Rows) where
  -- party j's share of the state after i rounds of LowMC
  unfoldable pub state_share : ℕ → Party → Bits
  state_share zero j = start L (share j) (into_share j p)
  state_share (suc i) j =
      advance L i (share j) (into_share j (L.roundconstant i)) (state_share i j) (gates_of (state_share i) (λ k. tape k i) j)

  -- each gate's bit is appended to that party's transcript
  unfoldable pub transcript : Party → Rows
  transcript j i = gates_of (state_share i) (λ k. tape k i) j

  -- party j's output share
  unfoldable pub output_share : Party → Bits
  output_share j = state_share L.r j

-- ---- the verifier's recomputation under challenge e

-- public constants go into the first opened share for e = 0
abbrev pub into_first : Party → Bits → Bits
into_first party0 c = c
into_first party1 c = zeros
into_first party2 c = zeros

-- into the second for e = 2, into neither for e = 1
abbrev pub into_second : Party → Bits → Bits
into_second party0 c = zeros
into_second party1 c = zeros
into_second party2 c = c

-- what is opened of parties e and e+1: input shares, tapes' bits for the gates, and the transcript of e+1
pub record Opening : Type 0 where
  pub share₁ : Bits
  pub share₂ : Bits
  pub tape₁ : Rows
  pub tape₂ : Rows
  pub transcript₂ : Rows

module _ (L : Cipher) (p : Bits) (e : Party) (o : Opening) where
  -- the share of party e+1, whose transcript is taken from the signature
  unfoldable pub state₂ : ℕ → Bits
  state₂ zero = start L o.share₂ (into_second e p)
  state₂ (suc i) = advance L i o.share₂ (into_second e (L.roundconstant i)) (state₂ i) (o.transcript₂ i)

  -- the share of party e, whose gates are recomputed
  unfoldable pub state₁ : ℕ → Bits
  state₁ zero = start L o.share₁ (into_first e p)
  state₁ (suc i) =
      advance L i o.share₁ (into_first e (L.roundconstant i)) (state₁ i)
      (gates (state₁ i) (state₂ i) (o.tape₁ i) (o.tape₂ i))

  -- the verifier recomputes the transcript of party e
  unfoldable pub transcript₁ : Rows
  transcript₁ i = gates (state₁ i) (state₂ i) (o.tape₁ i) (o.tape₂ i)

  -- the output share of party e
  unfoldable pub output₁ : Bits
  output₁ = state₁ L.r

  -- the output share of party e+1
  unfoldable pub output₂ : Bits
  output₂ = state₂ L.r

  -- the third output share is the XOR of two and C
  unfoldable pub output₃ : (C : Bits) → Bits
  output₃ C = output₁ ⊕ output₂ ⊕ C
