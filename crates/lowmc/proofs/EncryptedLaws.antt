-- Laws of the encryption's code: a round and the start as the definitions have them, and the bytes that are stored.
use mathlib.Core.Path.{◌≡◌, refl, sym, ap, ap₂, ◌∙◌}
use mathlib.Core.List.{◌++◌}
use Prim.Native.Nat.{ℕ, ◌+◌, ◌-◌, ◌≤◌}
use native.Mathlib.Omega.{arith}
use lib.ListN.{length, take, drop}
use lib.Seq.{length-take-le, take_at, drop_at}
use Rattle.slices.specs.Slices.{Bytes, put, over}
use Rattle.slices.proofs.SliceLaws.{over-put}
use Rattle.bits.specs.Bits.{Bits, ◌⊕◌}
use Rattle.bits.specs.Bytes.{bits_of, bytes, bytes_of}
use Rattle.bits.proofs.BitsLaws.{up_to_is}
use Rattle.bits.proofs.BytesLaws.{bits_past, length-bytes, length-bytes_of}
use Rattle.sets.specs.declared.Set.{Set}
use Rattle.sets.specs.Sets.{IsSet}
use Rattle.sets.specs.Lengths.{w, public_length}
use Rattle.circuit.specs.Matrices.{Matrix, product}
use Rattle.circuit.specs.Lowmc.{sboxes, start, step, encryption}
use Rattle.circuit.proofs.LowmcLaws.{encryption_past}
use Rattle.lowmc.specs.Lent.{matrix_of, constant_of, cipher_of}
use Rattle.lowmc.specs.Encrypted.{encrypted, public_key, HalvesOfPublicKey}
use Rattle.lowmc.proofs.LentLaws.{whole, constant_past}

-- the code's sum of what follows the S-boxes
pub turn_of : (n : ℕ) (L K : Matrix) (key c y u k v r : Bits) → u ≡ product n L y → k ≡ product n K key → v ≡ c ⊕ k → r ≡ u ⊕ v
    → r ≡ product n L y ⊕ c ⊕ product n K key
turn_of n L K key c y u k v r eu ek ev er = er ∙ ap₂ ◌⊕◌ eu (ev ∙ ap (λ (z : Bits). c ⊕ z) ek)

module _ (p : Set) (keys layers constants : Bytes) where
  -- the code's sum before the first round
  pub start_of : (key c r : Bits) → r ≡ product p.n (matrix_of p.n keys 0) key ⊕ c → r ≡ start (cipher_of p keys layers constants) key c
  unfolding start
  start_of key c r e = e

  -- the code's sum of a round
  pub step_of : (i : ℕ) (key x y c r : Bits) → y ≡ sboxes p.s x → c ≡ constant_of p.n constants i
      → r ≡ product p.n (matrix_of p.n layers i) y ⊕ c ⊕ product p.n (matrix_of p.n keys (i + 1)) key
      → r ≡ step (cipher_of p keys layers constants) key i x
  unfolding step
  step_of i key x y c r ey ec er =
      er ∙ ap₂ (λ (u v : Bits). product p.n (matrix_of p.n layers i) u ⊕ v ⊕ product p.n (matrix_of p.n keys (i + 1)) key) ey ec

  -- the bytes that are stored of an encryption
  pub stored_of : IsSet p → (secret block : Bytes) → length block ≡ w p → (key plain x : Bits) → key ≡ bits_of secret → plain ≡ bits_of block
      → x ≡ encryption (cipher_of p keys layers constants) key plain
      → bytes (w p) x ≡ encrypted p keys layers constants secret block
  unfolding encrypted bytes_of
  stored_of h secret block n key plain x ek ep ex =
      let d = whole h in
      ap (bytes (w p))
      (ex ∙ (ap₂ (encryption (cipher_of p keys layers constants)) ek ep
      ∙ up_to_is p.n _ _ (λ i l. refl)
      (encryption_past (cipher_of p keys layers constants) (bits_of secret) (bits_of block) (constant_past h constants)
      (λ i l. bits_past block i (omega arith)))))

-- what stands in a slice whose first bytes, as many as the code's width x, are stored
pub start-written : (out ys vs : Bytes) (x w : ℕ) (b : Bits) → x ≡ w → w ≤ length out → ys ≡ bytes (length (take (x - 0) out)) b → bytes w b ≡ vs
    → ys ++ drop (x - 0) out ≡ over vs out
unfolding over
start-written out ys vs x w b e h ey ev =
    let d : x - 0 ≡ w = omega arith in
    let n : length (take (x - 0) out) ≡ w = ap (λ (k : ℕ). length (take k out)) d ∙ length-take-le w out h in
    let l : length vs ≡ x - 0 = ap length (sym ev) ∙ (length-bytes w b ∙ sym d) in
    ap₂ (λ (u : Bytes) (k : ℕ). u ++ drop k out) (ey ∙ (ap (λ (k : ℕ). bytes k b) n ∙ ev)) (sym l)

pub length-encrypted : (p : Set) (keys layers constants secret block : Bytes) → length (encrypted p keys layers constants secret block) ≡ w p
unfolding encrypted
length-encrypted p keys layers constants secret block = length-bytes_of p.n _

-- a public key: the encryption, and the block behind it
pub key_written : (p : Set) (keys layers constants secret block out mid last : Bytes) (x : ℕ) → x ≡ w p → length block ≡ w p → public_length p ≤ length out
    → mid ≡ over (encrypted p keys layers constants secret block) out → last ≡ put mid x block
    → last ≡ over (public_key p keys layers constants secret block) out
unfolding public_key
key_written p keys layers constants secret block out mid last x e n h em el =
    let l = length-encrypted p keys layers constants secret block in
    el ∙ (ap₂ (λ (m : Bytes) (k : ℕ). put m k block) em (e ∙ sym l)
    ∙ over-put (encrypted p keys layers constants secret block) block out (omega arith))

-- ---- the halves of a public key

pub halves_of_public_key : HalvesOfPublicKey
unfolding HalvesOfPublicKey public_key
halves_of_public_key p keys layers constants secret block =
    let c = encrypted p keys layers constants secret block in
    let n = length-encrypted p keys layers constants secret block in
    (take_at c block (w p) n, drop_at c block (w p) n)
