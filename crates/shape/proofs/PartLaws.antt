-- Laws of parts of a byte string, and of strings one after the other.
use mathlib.Core.Path.{◌≡◌, sym, ap, ◌∙◌}
use mathlib.Core.Logic.{⊎_elim}
use mathlib.Core.List.{◌++◌}
use Prim.Native.Nat.{ℕ, zero, suc, ◌+◌, ◌*◌, ◌-◌, ◌≤◌, ◌<◌}
use native.Mathlib.Omega.{arith}
use native.Mathlib.Nat.{suc-mul, zero-mul, mul-le-mul_right}
use lib.ListN.{length, take, drop, length-append, length-drop}
use lib.Seq.{length-take-le, take_all, take-append-le, drop-append-le, drop-append-add, take-take, drop-drop, take_at, drop_at, take-add}
use Rattle.slices.specs.Slices.{Bytes, part, put, joined}
use Rattle.slices.proofs.SliceLaws.{drop-take, put-put}
use Rattle.bits.proofs.NumberLaws.{below}

-- ---- parts

pub length_part : (s : Bytes) (at n : ℕ) → at + n ≤ length s → length (part s at n) ≡ n
length_part s at n h = length-take-le n (drop at s) (omega (arith, length-drop at s))

pub part-take : (s : Bytes) (m at n : ℕ) → at + n ≤ m → part (take m s) at n ≡ part s at n
part-take s m at n h =
    let e : at + (m - at) ≡ m = omega arith in
    ap (λ (k : ℕ). take n (drop at (take k s))) (sym e)
    ∙ (ap (take n) (drop-take at (m - at) s) ∙ take-take n (m - at) (drop at s) (omega arith))

-- a part of a part
pub part-part : (s : Bytes) (at m from n : ℕ) → from + n ≤ m → part (part s at m) from n ≡ part s (at + from) n
part-part s at m from n h = part-take (drop at s) m from n h ∙ ap (take n) (drop-drop from at s)

-- a part of the first of two strings
pub part_front : (u v : Bytes) (at n : ℕ) → at + n ≤ length u → part (u ++ v) at n ≡ part u at n
part_front u v at n h =
    ap (take n) (drop-append-le at u v (omega arith)) ∙ take-append-le n (drop at u) v (omega (arith, length-drop at u))

-- the second of them
pub part-behind : (u v : Bytes) (at n : ℕ) → length u ≡ at → length v ≡ n → part (u ++ v) at n ≡ v
part-behind u v at n a b = ap (take n) (drop_at u v at a) ∙ take_all n v (omega arith)

pub part_past : (u v : Bytes) (at from n : ℕ) → length u ≡ at → part (u ++ v) (at + from) n ≡ part v from n
part_past u v at from n a = ap (λ (k : ℕ). part (u ++ v) (k + from) n) (sym a) ∙ ap (take n) (drop-append-add u v from)

-- two parts that touch
pub part-add : (s : Bytes) (at m n there : ℕ) → at + m ≡ there → part s at m ++ part s there n ≡ part s at (m + n)
part-add s at m n there e =
    ap (λ (k : ℕ). part s at m ++ part s k n) (sym e)
    ∙ sym (take-add m n (drop at s) ∙ ap (λ (l : Bytes). part s at m ++ take n l) (drop-drop m at s))

-- five parts that make the whole
pub five_parts : (b : Bytes) (d t s r w : ℕ) → d + t + s + s ≡ r → r + w ≡ length b
    → part b 0 d ++ (part b d t ++ (part b (d + t) s ++ (part b (d + t + s) s ++ part b r w))) ≡ b
five_parts b d t s r w e l =
    let e4 = part-add b (d + t + s) s w r e in
    let e3 = part-add b (d + t) s (s + w) (d + t + s) (omega arith) in
    let e2 = part-add b d t (s + (s + w)) (d + t) (omega arith) in
    let e1 = part-add b 0 d (t + (s + (s + w))) d (omega arith) in
    rw (e4, e3, e2, e1) (take_all (d + (t + (s + (s + w)))) b (omega arith))

-- the second of three strings
pub next_to : (u v rest : Bytes) (at n : ℕ) → length u ≡ at → length v ≡ n → part (u ++ (v ++ rest)) at n ≡ v
next_to u v rest at n a b = ap (take n) (drop_at u (v ++ rest) at a) ∙ take_at v rest n b

-- ---- strings one after the other

module _ (m : ℕ) (f : ℕ → Bytes) where
  pub length_of_joined : (k : ℕ) → ((i : ℕ) → i < k → length (f i) ≡ m) → length (joined k f) ≡ k * m
  unfolding joined
  length_of_joined zero l = sym (zero-mul m)
  length_of_joined (suc k) l =
      omega (
        arith,
        length-append (joined k f) (f k),
        length_of_joined k (λ i h. l i (omega arith)),
        l k (omega arith),
        suc-mul k m,
      )

  -- one of them
  pub part_of_joined : (n : ℕ) → ((i : ℕ) → i < n → length (f i) ≡ m) → (k : ℕ) → k < n → part (joined n f) (k * m) m ≡ f k
  unfolding joined
  part_of_joined zero l k h = absurd (omega arith)
  part_of_joined (suc n) l k h =
      let g = length_of_joined n (λ i q. l i (omega arith)) in
      ⊎_elim
      (λ (q : k < n).
      let b : suc k * m ≤ n * m = mul-le-mul_right m q in
      part_front (joined n f) (f n) (k * m) m (omega (arith, suc-mul k m))
      ∙ part_of_joined n (λ i a. l i (omega arith)) k q)
      (λ (q : n ≤ k).
      let e : k ≡ n = omega arith in
      rw e (part-behind (joined n f) (f n) (n * m) m g (l n (omega arith))))
      (below k n)

-- one more put behind those that are put
pub put-joined : (s : Bytes) (at k : ℕ) (f : ℕ → Bytes) (n : ℕ) → n ≡ at + length (joined k f) → n + length (f k) ≤ length s
    → put (put s at (joined k f)) n (f k) ≡ put s at (joined (suc k) f)
unfolding joined
put-joined s at k f n e h =
    ap (λ (i : ℕ). put (put s at (joined k f)) i (f k)) e ∙ put-put s at (joined k f) (f k) (omega arith)
