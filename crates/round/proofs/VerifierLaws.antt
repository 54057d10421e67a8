-- Laws of the verifier's loop: two parties' states and the first one's transcript after i rounds.
use mathlib.Core.Path.{◌≡◌, refl, sym, ap, ◌∙◌, subst}
use mathlib.Core.Bool.{Bool, cond}
use mathlib.Core.List.{List}
use Prim.Native.Nat.{ℕ, zero, suc, ◌+◌, ◌*◌, ◌≤◌, ◌<◌}
use native.Mathlib.Omega.{arith}
use native.Mathlib.Nat.{le_refl}
use native.Mathlib.Numerals.{add-one}
use lib.Dec.{eqb}
use lib.ListN.{length, set, replicate}
use Rattle.bits.specs.Bits.{Bits, zeros, up_to}
use Rattle.bits.specs.Words.{word_bits, block_bits}
use Rattle.circuit.specs.Lowmc.{Cipher, start}
use Rattle.circuit.specs.Round.{Party, party0, party1, party2, gates, advance, into_first, into_second, Opening, state₁, state₂, transcript₁, output₁, output₂}
use Rattle.circuit.specs.Tapes.{party_number}
use Rattle.round.specs.Engine.{Written, RecomputedAs}
use Rattle.round.specs.declared.Again.{Again}
use Rattle.round.proofs.GateLaws.{advance-row}
use Rattle.round.proofs.EngineLaws.{written_none, written-more, written_cong}

-- a public block goes into the first share if a, and into the second if b
pub record Goes (a b : Bool) (e : Party) : Type 0 where
  pub first : (c : Bits) → cond a c zeros ≡ into_first e c
  pub second : (c : Bits) → cond b c zeros ≡ into_second e c

-- as the code decides it
pub goes : (k : ℕ) (e : Party) → k ≡ party_number e → Goes (eqb k 0) (eqb k 2) e
goes k e h = subst (λ (z : ℕ). Goes (eqb z 0) (eqb z 2) e) (sym h) (of e)
  where
    of : (e : Party) → Goes (eqb (party_number e) 0) (eqb (party_number e) 2) e
    of party0 = record { first = λ c. refl; second = λ c. refl }
    of party1 = record { first = λ c. refl; second = λ c. refl }
    of party2 = record { first = λ c. refl; second = λ c. refl }

-- i rounds are done: x and y are the states, ws the words of the transcript
pub record Followed (C : Cipher) (p : Bits) (e : Party) (o : Opening) (i : ℕ) (x y : Bits) (ws : List ℕ) : Type 0 where
  pub first : x ≡ state₁ C p e o i
  pub second : y ≡ state₂ C p e o i
  pub rows : Written (3 * C.s) i (transcript₁ C p e o) ws

module _ (C : Cipher) (p : Bits) (e : Party) (o : Opening) (a b : Bool) (h : Goes a b e) where
  -- no round is done
  pub followed_none : (n : ℕ) (x y : Bits) → x ≡ start C o.share₁ (cond a p zeros) → y ≡ start C o.share₂ (cond b p zeros)
      → Followed C p e o 0 x y (replicate n 0)
  unfolding state₁ state₂
  followed_none n x y ex ey = record {
    first = ex ∙ ap (start C o.share₁) (h.first p);
    second = ey ∙ ap (start C o.share₂) (h.second p);
    rows = written_none _ n _;
  }

  -- one round more: g is the word of the first party's gates
  pub followed_more : (i : ℕ) (x y x' y' : Bits) (g : ℕ) (ws : List ℕ) → i < length ws
      → word_bits g ≡ up_to (3 * C.s) (gates x y (o.tape₁ i) (o.tape₂ i))
      → x' ≡ advance C i o.share₁ (cond a (C.roundconstant i) zeros) x (word_bits g)
      → y' ≡ advance C i o.share₂ (cond b (C.roundconstant i) zeros) y (o.transcript₂ i)
      → Followed C p e o i x y ws → Followed C p e o (i + 1) x' y' (set ws i g)
  unfolding state₁ state₂ transcript₁
  followed_more i x y x' y' g ws l eg ex ey d =
      let ef = d.first in
      let es = d.second in
      let ea = h.first (C.roundconstant i) in
      let eb = h.second (C.roundconstant i) in
      let row : word_bits g ≡ up_to (3 * C.s) (transcript₁ C p e o i)
      = eg ∙ (λ k. up_to (3 * C.s) (gates (ef k) (es k) (o.tape₁ i) (o.tape₂ i))) in
      record {
        first =
            ex
            ∙ (advance-row C i _ _ x (transcript₁ C p e o i) g row
            ∙ ((λ k. advance C i o.share₁ (ea k) (ef k) (transcript₁ C p e o i)) ∙ ap (state₁ C p e o) (sym (add-one i))));
        second = ey ∙ ((λ k. advance C i o.share₂ (eb k) (es k) (o.transcript₂ i)) ∙ ap (state₂ C p e o) (sym (add-one i)));
        rows = written-more _ i _ ws g l row d.rows;
      }

-- all rounds
pub followed_all : (C : Cipher) (p : Bits) (e : Party) (o : Opening) (i : ℕ) → i ≡ C.r → (v : Again)
    → Followed C p e o i (block_bits v.first) (block_bits v.second) v.said.words → RecomputedAs C p e o v
unfolding output₁ output₂
followed_all C p e o i q v d = record {
  first = d.first ∙ ap (state₁ C p e o) q;
  second = d.second ∙ ap (state₂ C p e o) q;
  transcript = subst (λ (k : ℕ). Written (3 * C.s) k (transcript₁ C p e o) v.said.words) q d.rows;
}

-- ---- a recomputation asks for the first r rows of tapes and transcript alone

-- two openings with the same shares and the same first r rows
pub record Alike (C : Cipher) (o q : Opening) : Type 0 where
  pub share₁ : o.share₁ ≡ q.share₁
  pub share₂ : o.share₂ ≡ q.share₂
  pub tape₁ : (i : ℕ) → i < C.r → o.tape₁ i ≡ q.tape₁ i
  pub tape₂ : (i : ℕ) → i < C.r → o.tape₂ i ≡ q.tape₂ i
  pub transcript₂ : (i : ℕ) → i < C.r → o.transcript₂ i ≡ q.transcript₂ i

module _ (C : Cipher) (p : Bits) (e : Party) (o q : Opening) (h : Alike C o q) where
  second_same : (i : ℕ) → i ≤ C.r → state₂ C p e o i ≡ state₂ C p e q i
  unfolding state₂
  second_same zero l = ap (λ (x : Bits). start C x (into_second e p)) h.share₂
  second_same (suc i) l =
      let x = h.share₂ in
      let a = second_same i (omega arith) in
      let t = h.transcript₂ i (omega arith) in
      λ k. advance C i (x k) (into_second e (C.roundconstant i)) (a k) (t k)

  first_same : (i : ℕ) → i ≤ C.r → state₁ C p e o i ≡ state₁ C p e q i
  unfolding state₁
  first_same zero l = ap (λ (x : Bits). start C x (into_first e p)) h.share₁
  first_same (suc i) l =
      let x = h.share₁ in
      let a = first_same i (omega arith) in
      let b = second_same i (omega arith) in
      let t = h.tape₁ i (omega arith) in
      let u = h.tape₂ i (omega arith) in
      λ k. advance C i (x k) (into_first e (C.roundconstant i)) (a k) (gates (a k) (b k) (t k) (u k))

  rows_same : (i : ℕ) → i < C.r → transcript₁ C p e o i ≡ transcript₁ C p e q i
  unfolding transcript₁
  rows_same i l =
      let a = first_same i (omega arith) in
      let b = second_same i (omega arith) in
      let t = h.tape₁ i l in
      let u = h.tape₂ i l in
      λ k. gates (a k) (b k) (t k) (u k)

  pub recomputed_cong : (v : Again) → RecomputedAs C p e o v → RecomputedAs C p e q v
  unfolding output₁ output₂
  recomputed_cong v d = record {
    first = d.first ∙ first_same C.r (le_refl C.r);
    second = d.second ∙ second_same C.r (le_refl C.r);
    transcript = written_cong _ _ _ _ _ rows_same d.transcript;
  }
