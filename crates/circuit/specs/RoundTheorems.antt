-- What a round is worth, as statements over any n, s, r and any tables.
use Rattle.std.specs.Prelude.{◌≡◌, ℕ, ◌*◌, ◌<◌}
use Rattle.bits.specs.Bits.{Bits, ◌⊕◌, Agree}
use Rattle.bits.specs.Rows.{Rows}
use Rattle.circuit.specs.Lowmc.{Cipher, encryption}
use Rattle.circuit.specs.Round.{Party, party0, party1, party2, next, third, transcript, output_share, Opening, transcript₁, output₁, output₂, output₃}

-- the XOR of three shares
unfoldable pub xor3 : (Party → Bits) → Bits
xor3 f = f party0 ⊕ f party1 ⊕ f party2

-- rows that have the same bits for the gates of r rounds of LowMC
abbrev pub SameGates : Cipher → Rows → Rows → Type 0
SameGates L t u = (i : ℕ) → i < L.r → Agree (3 * L.s) (t i) (u i)

-- (A) the three output shares XOR to LowMC of p under the XOR of the input shares
unfoldable pub OutputsEncrypt : Type 0
OutputsEncrypt =
    (L : Cipher) (p : Bits) (share : Party → Bits) (tape : Party → Rows) → xor3 (output_share L p share tape) ≡ encryption L (xor3 share) p

-- ---- (B) what the signer opens is recomputed as the signer had it

-- the opening of a signer's round for challenge e
pub record Opened (L : Cipher) (p : Bits) (share : Party → Bits) (tape : Party → Rows) (e : Party) (o : Opening) : Type 0 where
  pub share₁ : o.share₁ ≡ share e
  pub share₂ : o.share₂ ≡ share (next e)
  pub tape₁ : o.tape₁ ≡ tape e
  pub tape₂ : o.tape₂ ≡ tape (next e)
  pub transcript₂ : SameGates L o.transcript₂ (transcript L p share tape (next e))

-- what the verifier recomputes of it, where C has the bits of the encryption
pub record Recomputed (L : Cipher) (p C : Bits) (share : Party → Bits) (tape : Party → Rows) (e : Party) (o : Opening) : Type 0 where
  pub transcript : (i : ℕ) → i < L.r → transcript₁ L p e o i ≡ transcript L p share tape e i
  pub first : output₁ L p e o ≡ output_share L p share tape e
  pub second : output₂ L p e o ≡ output_share L p share tape (next e)
  pub last : (i : ℕ) → encryption L (xor3 share) p i ≡ C i → output₃ L p e o C i ≡ output_share L p share tape (third e) i

unfoldable pub OpeningRecomputes : Type 0
OpeningRecomputes =
    (L : Cipher) (p C : Bits) (share : Party → Bits) (tape : Party → Rows) (e : Party) (o : Opening)
    → Opened L p share tape e o → Recomputed L p C share tape e o

-- ---- (C) three openings that agree give a key of C

-- o e is the opening for challenge e. The party after j is opened first for its own number and second for j: there it has the
-- same share and tape, and the transcript that is recomputed is the one that was given. y are the output shares
pub record Agreeing (L : Cipher) (p C : Bits) (o : Party → Opening) (y : Party → Bits) : Type 0 where
  pub share : (j : Party) → (o (next j)).share₁ ≡ (o j).share₂
  pub tape : (j : Party) → (o (next j)).tape₁ ≡ (o j).tape₂
  pub transcript : (j : Party) → SameGates L (transcript₁ L p (next j) (o (next j))) (o j).transcript₂
  pub output : (j : Party) → Agree L.n (output₁ L p j (o j)) (y j)
  pub last : (j : Party) → Agree L.n (output₃ L p j (o j) C) (y (third j))

-- the XOR of the three input shares is a key under which LowMC of p is C
unfoldable pub OpeningsYieldKey : Type 0
OpeningsYieldKey =
    (L : Cipher) (p C : Bits) (o : Party → Opening) (y : Party → Bits)
    → Agreeing L p C o y → Agree L.n (encryption L (xor3 (λ j. (o j).share₁)) p) C
