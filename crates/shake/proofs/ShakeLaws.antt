-- The sponge a byte at a time is the sponge by blocks: a message absorbed, padded and squeezed is SHAKE of it.
use mathlib.Core.Path.{◌≡◌, refl, sym, ap, ap₂, ◌∙◌, subst}
use mathlib.Core.Bool.{Bool, true, false}
use mathlib.Core.List.{[], ◌∷◌, ◌++◌, append-nil}
use Prim.Native.Nat.{ℕ, zero, suc, ◌+◌, ◌-◌, ◌*◌, ◌/◌, ◌%◌, ◌<◌, ◌≤◌}
use native.Mathlib.Omega.{arith}
use native.Mathlib.Nat.{zero-add, add-zero, suc-mul, zero-mul, mod-lt, mod-eq_of_lt, add-mod_left, div-add-mod'}
use native.Mathlib.Numerals.{add-one}
use lib.Bits.{bit_xor}
use lib.Dec.{eqb}
use lib.ListN.{length, take, drop, replicate, length-append, length-drop, length-replicate, take-append-drop}
use lib.Seq.{length-take-le, take-append-add}
use borrow.Author.Tests.{eq-eqb, ne_eqb, eqb-true, eqb-false}
use Rattle.keccak.specs.Lanes.{Lanes, permuted}
use Rattle.slices.specs.Slices.{Bytes}
use Rattle.shake.specs.declared.Sponge.{Sponge}
use Rattle.shake.specs.Shake.{bytes_at, byte_added, added, padding, absorbed_blocks, squeezed_blocks, shake}
use Rattle.shake.specs.Sponge.{sponge, started, absorbed_byte, absorbed, padded, given, Rate, GivesShake}
use Rattle.shake.proofs.StateLaws.{added-one, added-append, added-zeros, byte_added_twice, length-bytes_at, take-bytes_at}
use Rattle.shake.proofs.SpongeLaws.{absorbed-append, absorbed-none, absorbed-last, absorbed-next, absorbed_full, given-room, squeezed-room, given-none, given-add, given-ready, ready_spent, length-absorbed, rate_absorbed}

-- ---- absorbing

-- where the bytes of m leave the place
absorbed_at : (r : ℕ) (a : Lanes) (j : ℕ) (m : Bytes) → j < r → (absorbed (sponge r a j) m).at ≡ (j + length m) % r
unfolding absorbed
absorbed_at r a j [] h = sym (rw add-zero (mod-eq_of_lt h))
absorbed_at r a j (b ∷ m) h = go (eqb (j + 1) r) refl (λ x l. absorbed_at r x 0 m l) (λ x l. absorbed_at r x (j + 1) m l)
  where
    go : (t : Bool) → eqb (j + 1) r ≡ t → ((x : Lanes) → 0 < r → (absorbed (sponge r x 0) m).at ≡ (0 + length m) % r)
        → ((x : Lanes) → j + 1 < r → (absorbed (sponge r x (j + 1)) m).at ≡ (j + 1 + length m) % r)
        → (absorbed (absorbed_byte (sponge r a j) b) m).at ≡ (j + suc (length m)) % r
    go true e f g =
        let s = eqb-true (j + 1) r e in
        let z : j + suc (length m) ≡ r + length m = omega arith in
        rw (absorbed-last r a j b s, z, add-mod_left) (f _ (omega arith) ∙ ap (λ (n : ℕ). n % r) (zero-add (length m)))
    go false e f g =
        let s = eqb-false (j + 1) r e in
        let z : j + suc (length m) ≡ j + 1 + length m = omega arith in
        rw (absorbed-next r a j b s, z) (g _ (omega arith))

nil : (p : Bytes) → length p ≡ 0 → p ≡ []
nil [] h = refl
nil (b ∷ p) h = absurd (omega arith)

-- whole blocks
absorbed_blocks_lem : (r n : ℕ) (p : Bytes) (a : Lanes) → 0 < r → length p ≡ n * r → absorbed (sponge r a 0) p ≡ sponge r (absorbed_blocks r n p a) 0
unfolding absorbed_blocks
absorbed_blocks_lem r zero p a h e = rw (nil p (e ∙ zero-mul r)) (sym (absorbed-none (sponge r a 0)))
absorbed_blocks_lem r (suc n) p a h e =
    let e' : length p ≡ n * r + r = e ∙ suc-mul n r in
    let lt : length (take r p) ≡ r = length-take-le r p (omega arith) in
    let ld : length (drop r p) ≡ n * r = length-drop r p ∙ (omega arith) in
    let b = permuted (added a 0 (take r p)) in
    ap (absorbed (sponge r a 0)) (sym (take-append-drop r p))
    ∙ sym (absorbed-append (sponge r a 0) (take r p) (drop r p))
    ∙ ap (λ (s : Sponge). absorbed s (drop r p)) (absorbed_full r a 0 (take r p) h (zero-add (length (take r p)) ∙ lt))
    ∙ absorbed_blocks_lem r n (drop r p) b h ld

-- ---- the padding

-- where one byte is left, it is the sum of the first and the last
padding-last : (r n : ℕ) → n + 1 ≡ r → padding r n ≡ bit_xor 0x1F 0x80 ∷ []
unfolding padding
padding-last r n h = rw (eq-eqb (n + 1) r h)

padding-more : (r n : ℕ) → (n + 1 ≡ r → ⊥) → padding r n ≡ 0x1F ∷ (replicate (r - n - 2) 0 ++ (0x80 ∷ []))
unfolding padding
padding-more r n h = rw (ne_eqb (n + 1) r h)

length-padding : (r n : ℕ) → n < r → length (padding r n) ≡ r - n
length-padding r n h = go (eqb (n + 1) r) refl
  where
    go : (t : Bool) → eqb (n + 1) r ≡ t → length (padding r n) ≡ r - n
    go true e =
        let s = eqb-true (n + 1) r e in
        rw (padding-last r n s) (omega arith)
    go false e =
        let s = eqb-false (n + 1) r e in
        rw (padding-more r n s) (simp (length-append, length-replicate) (omega arith))

-- 1F at the place and 80 at the end are the padding, one byte or more
padding-added : (r : ℕ) (a : Lanes) (j : ℕ) → length a ≡ 25 → r ≤ 200 → j < r
    → added a j (padding r j) ≡ byte_added (byte_added a j 0x1F) (r - 1) 0x80
padding-added r a j l u h = go (eqb (j + 1) r) refl
  where
    go : (t : Bool) → eqb (j + 1) r ≡ t → added a j (padding r j) ≡ byte_added (byte_added a j 0x1F) (r - 1) 0x80
    go true e =
        let s = eqb-true (j + 1) r e in
        let z : r - 1 ≡ j = omega arith in
        rw (padding-last r j s, z, byte_added_twice a j 0x1F 0x80 (omega arith)) (added-one a j (bit_xor 0x1F 0x80))
    go false e =
        let s = eqb-false (j + 1) r e in
        let k = r - j - 2 in
        let z : j + 1 + k ≡ r - 1 = omega arith in
        rw (padding-more r j s)
        (added-append a j (0x1F ∷ []) (replicate k 0 ++ (0x80 ∷ []))
        ∙ ap (λ (x : Lanes). added x (j + 1) (replicate k 0 ++ (0x80 ∷ []))) (added-one a j 0x1F)
        ∙ added-zeros (byte_added a j 0x1F) (j + 1) k (0x80 ∷ []) ∙ added-one (byte_added a j 0x1F) (j + 1 + k) 0x80
        ∙ ap (λ (i : ℕ). byte_added (byte_added a j 0x1F) i 0x80) z)

-- the padding absorbed
absorbed-padding : (s : Sponge) → length s.lanes ≡ 25 → s.rate ≤ 200 → s.at < s.rate → absorbed s (padding s.rate s.at) ≡ padded s
unfolding padded
absorbed-padding s l u h =
    absorbed_full s.rate s.lanes s.at (padding s.rate s.at) h (omega (arith, length-padding s.rate s.at h))
    ∙ ap (λ (x : Lanes). sponge s.rate (permuted x) 0) (padding-added s.rate s.lanes s.at l u h)

-- ---- squeezing

given_spent : (r : ℕ) (a : Lanes) (n : ℕ) → 0 < r → given (sponge r a r) n ≡ given (sponge r (permuted a) 0) n
given_spent r a zero h = given-none (sponge r a r) ∙ sym (given-none (sponge r (permuted a) 0))
given_spent r a (suc n) h = sym (given-ready (sponge r a r) (suc n) h (omega arith)) ∙ ap (λ (s : Sponge). given s (suc n)) (ready_spent r a r refl)

given_blocks : (r q n : ℕ) (a : Lanes) → 0 < r → n < r → given (sponge r a 0) (q * r + n) ≡ take (q * r + n) (squeezed_blocks r (suc q) a)
unfolding squeezed_blocks
given_blocks r zero n a p h =
    rw (zero-mul, zero-add) (given-room r a 0 n (omega arith) ∙ sym (rw append-nil (take-bytes_at a 0 n r (omega arith))))
given_blocks r (suc q) n a p h =
    let k = q * r + n in
    let z : suc q * r + n ≡ r + k = ap (λ (x : ℕ). x + n) (suc-mul q r) ∙ (omega arith) in
    let b = bytes_at a 0 r in
    rw z
    (sym (given-add (sponge r a 0) r k)
    ∙ ap₂ ◌++◌ (given-room r a 0 r (omega arith))
    (ap (λ (s : Sponge). given s k) (squeezed-room r a 0 r (omega arith) ∙ ap (sponge r a) (zero-add r)) ∙ given_spent r a k p
    ∙ given_blocks r q n (permuted a) p h)
    ∙ sym (subst (λ (i : ℕ). take (i + k) (b ++ squeezed_blocks r (suc q) (permuted a)) ≡ b ++ take k (squeezed_blocks r (suc q) (permuted a)))
    (length-bytes_at a 0 r)
    (take-append-add b (squeezed_blocks r (suc q) (permuted a)) k)))

-- ---- all of it

-- a message and its padding are whole blocks
whole_blocks : (r n : ℕ) → 0 < r → n + (r - n % r) ≡ (n / r + 1) * r
whole_blocks r n h =
    let e = div-add-mod' n r in
    let l = mod-lt n h in
    let s : (n / r + 1) * r ≡ n / r * r + r = ap (λ (x : ℕ). x * r) (add-one (n / r)) ∙ suc-mul (n / r) r in
    omega arith

module _ (r : ℕ) (h : Rate r) (m : Bytes) where
  -- the sponge of the message, its place, and its length
  taken : Sponge
  taken = absorbed (started r) m

  taken_rate : taken.rate ≡ r
  unfolding taken started
  taken_rate = rate_absorbed (started r) m

  taken_at : taken.at ≡ length m % r
  unfolding taken started
  taken_at = absorbed_at r (replicate 25 0) 0 m h.some ∙ ap (λ (n : ℕ). n % r) (zero-add (length m))

  taken_lanes : length taken.lanes ≡ 25
  unfolding taken started
  taken_lanes = length-absorbed (started r) m refl

  taken-padding : padded taken ≡ absorbed taken (padding r (length m % r))
  taken-padding =
      let l : length m % r < r = mod-lt (length m) h.some in
      sym (absorbed-padding taken taken_lanes (omega (arith, taken_rate, h.small)) (omega (arith, taken_rate, taken_at, l)))
      ∙ ap₂ (λ (q j : ℕ). absorbed taken (padding q j)) taken_rate taken_at

  -- the padded message by blocks
  padded_blocks : padded taken ≡ sponge r (absorbed_blocks r (length m / r + 1) (m ++ padding r (length m % r)) (replicate 25 0)) 0
  unfolding taken started
  padded_blocks =
      let p = padding r (length m % r) in
      let l : length (m ++ p) ≡ (length m / r + 1) * r =
      length-append m p ∙ ap (λ (n : ℕ). length m + n) (length-padding r (length m % r) (mod-lt (length m) h.some))
      ∙ whole_blocks r (length m) h.some in
      taken-padding ∙ absorbed-append (started r) m p ∙ absorbed_blocks_lem r (length m / r + 1) (m ++ p) (replicate 25 0) h.some l

pub gives-shake : GivesShake
unfolding GivesShake shake taken
gives-shake r h m d =
    let a = absorbed_blocks r (length m / r + 1) (m ++ padding r (length m % r)) (replicate 25 0) in
    let e : d / r * r + d % r ≡ d = div-add-mod' d r in
    ap (λ (s : Sponge). given s d) (padded_blocks r h m)
    ∙ subst (λ (n : ℕ). given (sponge r a 0) n ≡ take n (squeezed_blocks r (suc (d / r)) a)) e (given_blocks r (d / r) (d % r) a h.some (mod-lt d h.some))
    ∙ ap (λ (q : ℕ). take d (squeezed_blocks r q a)) (sym (add-one (d / r)))
