-- Laws of the room: its places, what is put there, and how bytes come to stand at the start of an array.
use mathlib.Core.Path.{◌≡◌, refl, sym, ap, ap₂, ◌∙◌}
use mathlib.Core.List.{[], ◌∷◌, ◌++◌, append_assoc}
use Prim.Native.Nat.{ℕ, suc, ◌+◌, ◌-◌, ◌*◌, ◌≤◌, ◌<◌}
use native.Mathlib.Omega.{arith}
use native.Mathlib.Nat.{mul-le-mul_right, suc-mul, le_of_eq}
use lib.Dec.{lit≤}
use lib.ListN.{length, take, drop, length-append, length-drop}
use lib.Seq.{length-take-le, take_at, take_all}
use Rattle.slices.specs.Slices.{Bytes, put}
use Rattle.slices.proofs.SliceLaws.{put-put}
use Rattle.bits.specs.Bits.{Bits}
use Rattle.bits.specs.Bytes.{bytes, bytes_of, width}
use Rattle.bits.proofs.BitsLaws.{up_to_in}
use Rattle.bits.proofs.BytesLaws.{bytes_cong}
use Rattle.sets.specs.declared.Set.{Set}
use Rattle.sets.specs.Sets.{IsSet}
use Rattle.sets.specs.Lengths.{w, transcript_length, room_length}
use Rattle.sets.proofs.Each.{each, most}
use Rattle.circuit.specs.Round.{Party, party0, party1, party2}
use Rattle.circuit.specs.Tapes.{party_number, tape_length}
use Rattle.lowmc.specs.Lent.{cipher_of}
use Rattle.shake.specs.Sponge.{started, absorbed}
use Rattle.answers.specs.Answers.{Checked}
use Rattle.challenge.specs.Filling.{Fills}
use Rattle.views.specs.Input.{challenge_input}
use Rattle.room.specs.Room.{commitments_at}

-- ---- the numbers of a set

pub record Sizes (p : Set) : Type 0 where
  pub width : w p ≤ 32
  pub bits : p.n ≡ 8 * w p
  pub narrower : w p ≤ transcript_length p
  pub transcript : transcript_length p ≤ 143
  pub digest : p.digest ≤ 64
  pub rounds : p.t ≤ 438
  pub room : p.t * (3 * w p) + p.t * (3 * p.digest) ≡ room_length p
  pub most : room_length p ≤ 126144

pub sizes : {p : Set} → IsSet p → Sizes p
unfolding width
sizes h = record {
  width = most w 32 tt tt tt h;
  bits = each (λ (p : Set). p.n ≡ 8 * w p) refl refl refl h;
  transcript = most transcript_length 143 tt tt tt h;
  narrower = each (λ (p : Set). w p ≤ transcript_length p) (lit≤ tt) (lit≤ tt) (lit≤ tt) h;
  digest = most (λ (p : Set). p.digest) 64 tt tt tt h;
  rounds = most (λ (p : Set). p.t) 438 tt tt tt h;
  room = each (λ (p : Set). p.t * (3 * w p) + p.t * (3 * p.digest) ≡ room_length p) refl refl refl h;
  most = most room_length 126144 tt tt tt h;
}

-- the length of a tape, by the party's number j and the code's widths m and t
pub tape-long : (p : Set) (j m t : ℕ) → (j ≡ 2 → ⊥) → m ≡ w p → t ≡ transcript_length p
    → (keys layers constants : Bytes) (k : Party) → j ≡ party_number k → m + t ≡ tape_length (cipher_of p keys layers constants) k
tape-long p j m t h a b keys layers constants party0 e = ap₂ ◌+◌ a b
tape-long p j m t h a b keys layers constants party1 e = ap₂ ◌+◌ a b
tape-long p j m t h a b keys layers constants party2 e = absurd (h e)

pub tape_short : (p : Set) (j t : ℕ) → j ≡ 2 → t ≡ transcript_length p
    → (keys layers constants : Bytes) (k : Party) → j ≡ party_number k → t ≡ tape_length (cipher_of p keys layers constants) k
tape_short p j t h b keys layers constants party0 e = absurd (omega arith)
tape_short p j t h b keys layers constants party1 e = absurd (omega arith)
tape_short p j t h b keys layers constants party2 e = b

-- a row of m bytes below the last
below_last : (t k m : ℕ) → t < k → t * m + m ≤ k * m
below_last t k m h = let q : suc t * m ≤ k * m = mul-le-mul_right m h in omega (arith, suc-mul t m)

module _ {p : Set} (h : IsSet p) (t : ℕ) (l : t < p.t) where
  commitments_end : commitments_at p t + 3 * p.digest ≤ room_length p
  commitments_end = omega (arith, below_last t p.t (3 * p.digest) l, (sizes h).room)

  -- by the code's width m
  pub commitments_fit : (m : ℕ) → m ≡ w p → p.t * (3 * m) + t * (3 * p.digest) + p.digest + p.digest + p.digest ≤ room_length p
  commitments_fit m e = rw e (omega (arith, commitments_end))

-- ---- three in a row

pub three-put : (s : Bytes) (at : ℕ) (a b c : Bytes) → at + length a + length b + length c ≤ length s
    → {s1 s2 s3 : Bytes} → s1 ≡ put s at a → s2 ≡ put s1 (at + length a) b → s3 ≡ put s2 (at + length a + length b) c
    → s3 ≡ put s at (a ++ (b ++ c))
three-put s at a b c h {s1} {s2} {s3} e1 e2 e3 =
    let f2 : s2 ≡ put s at (a ++ b) = e2 ∙ (ap (λ (x : Bytes). put x (at + length a) b) e1 ∙ put-put s at a b (omega arith)) in
    let l2 : length (a ++ b) ≡ length a + length b = length-append a b in
    let g3 : at + length a + length b ≡ at + length (a ++ b) = omega arith in
    e3 ∙ (ap (λ (x : Bytes). put x (at + length a + length b) c) f2
    ∙ (ap (λ (n : ℕ). put (put s at (a ++ b)) n c) g3
    ∙ (put-put s at (a ++ b) c (omega arith) ∙ ap (put s at) (append_assoc a b c))))

-- ---- the start of an array

-- a block is stored in whole bytes
pub stored_bits : {p : Set} → IsSet p → (x : Bits) → bytes (w p) x ≡ bytes_of p.n x
unfolding bytes_of
stored_bits {p} h x = bytes_cong (w p) x _ (λ i l. sym (up_to_in p.n x i (omega (arith, (sizes h).bits))))

-- the first n bytes of an array that has vs put at its start, where n is the code's m
pub front_of : (l v vs : Bytes) (n m : ℕ) → m ≡ n → m ≤ length l → length v ≡ length (take m l) → v ≡ vs → take n (v ++ drop m l) ≡ vs
front_of l v vs n m e h g q =
    ap (λ (k : ℕ). take k (v ++ drop m l)) (sym e) ∙ (take_at v (drop m l) m (g ∙ length-take-le m l h) ∙ q)

-- the same part by the code's number
pub take_as : (l : Bytes) (n m : ℕ) (vs : Bytes) → m ≡ n → take n l ≡ vs → take m l ≡ vs
take_as l n m vs e h = ap (λ (k : ℕ). take k l) e ∙ h

-- the length of such a part
pub take-small : (l : Bytes) (m n : ℕ) → m ≤ length l → m ≤ n → length (take m l) ≤ n
take-small l m n h g = omega (arith, length-take-le m l h)

-- the rest of a slice, by the code's number x
pub rest_as : (l : Bytes) (x n : ℕ) → x ≡ n → take (length l - x) (drop x l) ≡ drop n l
rest_as l x n e = take_all (length l - x) (drop x l) (le_of_eq (length-drop x l)) ∙ ap (λ (k : ℕ). drop k l) e

-- a part that holds n bytes is n bytes long
pub part-long : (l vs : Bytes) (n m : ℕ) → m ≡ n → take n l ≡ vs → length vs ≡ n → length (take m l) ≡ m
part-long l vs n m e h g = ap length (take_as l n m vs e h) ∙ (g ∙ sym e)

-- ---- the challenge

-- what its first block is fed, piece by piece
pub fed_input : (r : ℕ) (filled salt public message : Bytes)
    → absorbed (started r) ((((1 ∷ [] ++ filled) ++ public) ++ salt) ++ message) ≡ absorbed (started r) (1 ∷ challenge_input filled salt public message)
unfolding challenge_input
fed_input r filled salt public message = ap (absorbed (started r)) (simp append_assoc)

-- filled from the first block of the input
pub filled-from : (p : Set) (b b' : Bytes) (limit : ℕ) (out out' : Bytes) (r : Checked) → b ≡ b' → Fills p b limit out r out' → Fills p b' limit out r out'
filled-from p b b' limit out out' r e f = rw (← e) f
