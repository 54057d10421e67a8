-- Laws of writing a signature's parts: a header byte by byte, and a round's parts one behind the other.
use mathlib.Core.Path.{◌≡◌, sym, ap, ◌∙◌}
use mathlib.Core.List.{List, [], ◌∷◌, ◌++◌, append_assoc}
use Prim.Native.Nat.{ℕ, ◌+◌, ◌*◌, ◌≤◌}
use native.Mathlib.Omega.{arith}
use lib.ListN.{length, length-append}
use lib.Seq.{take_at, take_all}
use Rattle.slices.specs.Slices.{Bytes, put, joined}
use Rattle.slices.proofs.SliceLaws.{put-put}
use Rattle.bits.specs.Bits.{Bits, from, up_to}
use Rattle.bits.specs.Bytes.{value, bytes, bytes_of}
use Rattle.sets.specs.declared.Set.{Set}
use Rattle.sets.specs.Lengths.{header_length, round_least, round_most}
use Rattle.shape.specs.Fields.{sizes}
use Rattle.shape.specs.Header.{pair_bits, header_of}
use Rattle.shape.specs.Rounds.{round_fields}
use Rattle.shape.specs.Form.{Shown, Sized, slot_of, round_of}
use Rattle.shape.proofs.HeaderLaws.{pairs_end}
use Rattle.shape.proofs.RoundsLaws.{sizes_zero, sizes-other}
use Rattle.shape.proofs.RoundLaws.{pack-round}
use Rattle.shape.proofs.ShownLaws.{length-slot_of}

-- ---- the header

-- its bytes, one by one
pub header_by_bytes : (p : Set) (vs : List ℕ) → length vs ≡ p.t → joined (header_length p) (λ q. value 8 (from (8 * q) (pair_bits vs)) ∷ []) ≡ header_of p vs
unfolding header_of bytes_of bytes
header_by_bytes p vs e =
    ap (λ (f : Bits). joined (header_length p) (λ q. value 8 (from (8 * q) f) ∷ []))
    (sym (pairs_end vs) ∙ ap (λ (n : ℕ). up_to (2 * n) (pair_bits vs)) e)

-- ---- a round

-- four strings put one behind the other
pub four_put : (s : Bytes) (at : ℕ) (a b c d : Bytes) → at + length a + length b + length c + length d ≤ length s
    → {s1 s2 s3 s4 : Bytes} → s1 ≡ put s at a → s2 ≡ put s1 (at + length a) b → s3 ≡ put s2 (at + length a + length b) c
    → s4 ≡ put s3 (at + length a + length b + length c) d → s4 ≡ put s at (a ++ (b ++ (c ++ d)))
four_put s at a b c d h {s1} {s2} {s3} {s4} e1 e2 e3 e4 =
    let f2 : s2 ≡ put s at (a ++ b) = e2 ∙ (ap (λ (x : Bytes). put x (at + length a) b) e1 ∙ put-put s at a b (omega arith)) in
    let l2 : length (a ++ b) ≡ length a + length b = length-append a b in
    let g3 : at + length a + length b ≡ at + length (a ++ b) = omega arith in
    let f3 : s3 ≡ put s at ((a ++ b) ++ c) =
    e3 ∙ (ap (λ (x : Bytes). put x (at + length a + length b) c) f2
    ∙ (ap (λ (n : ℕ). put (put s at (a ++ b)) n c) g3 ∙ put-put s at (a ++ b) c (omega arith))) in
    let l3 : length ((a ++ b) ++ c) ≡ length (a ++ b) + length c = length-append (a ++ b) c in
    let g4 : at + length a + length b + length c ≡ at + length ((a ++ b) ++ c) = omega arith in
    e4 ∙ (ap (λ (x : Bytes). put x (at + length a + length b + length c) d) f3
    ∙ (ap (λ (n : ℕ). put (put s at ((a ++ b) ++ c)) n d) g4
    ∙ (put-put s at ((a ++ b) ++ c) d (omega arith) ∙ ap (put s at) (simp append_assoc))))

module _ (p : Set) (e : ℕ) (u : Shown) (z : Sized p u) where
  four : Bytes
  four = u.commitment ++ (u.transcript ++ (u.seed1 ++ u.seed2))

  pub length_four : length u.commitment + length u.transcript + length u.seed1 + length u.seed2 ≡ round_least p
  length_four = omega (arith, z.commitment, z.transcript, z.seed1, z.seed2)

  long : length four ≡ round_least p
  unfolding four
  long =
      omega (
        arith,
        length-append u.commitment (u.transcript ++ (u.seed1 ++ u.seed2)),
        length-append u.transcript (u.seed1 ++ u.seed2),
        length-append u.seed1 u.seed2,
        length_four,
      )

  whole : slot_of u ≡ four ++ u.share
  unfolding slot_of four
  whole = sym (simp append_assoc)

  -- without its share
  round_zero : e ≡ 0 → round_of p e u ≡ four
  unfolding round_of
  round_zero y =
      pack-round p e (slot_of u)
      ∙ (rw (sizes_zero p e y, whole) (take_at four u.share (round_least p) long))

  -- with it
  round-other : (e ≡ 0 → ⊥) → round_of p e u ≡ four ++ u.share
  unfolding round_of
  round-other y =
      pack-round p e (slot_of u)
      ∙ (rw (sizes-other p e y) (take_all (round_most p) (slot_of u)
      (omega (arith, length-slot_of p u z))) ∙ whole)

  module _ (s : Bytes) (at : ℕ) {s1 : Bytes} (g : s1 ≡ put s at (u.commitment ++ (u.transcript ++ (u.seed1 ++ u.seed2)))) where
    pub put_zero : e ≡ 0 → s1 ≡ put s at (round_of p e u)
    unfolding four
    put_zero y = g ∙ ap (put s at) (sym (round_zero y))

    pub put_other : {s2 : Bytes} (n : ℕ) → (e ≡ 0 → ⊥) → at + sizes (round_fields p e) ≤ length s → n ≡ at + round_least p
        → s2 ≡ put s1 n u.share → s2 ≡ put s at (round_of p e u)
    unfolding four
    put_other n y l q k =
        let r : n ≡ at + length four = omega (arith, long) in
        k ∙ (ap (λ (x : Bytes). put x n u.share) g ∙ (ap (λ (i : ℕ). put (put s at four) i u.share) r
        ∙ (put-put s at four u.share (omega (arith, long, z.share, sizes-other p e y)) ∙ ap (put s at) (sym (round-other y)))))
