-- SHAKE128 and SHAKE256 of FIPS 202 on byte strings: sections 4, 5.1 and 6.2, with appendix B.
-- The rate is counted in bytes: 1600 bits less the capacity of 256 or 512 bits are 168 or 136.
use Rattle.std.specs.Prelude.{cond, [], ◌∷◌, ◌++◌, ℕ, zero, suc, ◌+◌, ◌-◌, ◌*◌, ◌/◌, ◌%◌, ◌^◌, eqb, length, get_or, set, take, drop, replicate}
use Rattle.std.specs.Int.Bits.{bit_xor}
use Rattle.slices.specs.Slices.{Bytes}
use Rattle.keccak.specs.Lanes.{Lanes, permuted}

-- B.1: n bytes of a number, the low one first
unfoldable pub octets : ℕ → ℕ → Bytes
octets zero w = []
octets (suc n) w = w % 256 ∷ octets n (w / 256)

-- 3.1.2, B.1: byte j of the state's string; a lane is eight bytes, the low one first
unfoldable pub byte_at : Lanes → ℕ → ℕ
byte_at a j = get_or a (j / 8) 0 / 2 ^ (8 * (j % 8)) % 256

-- n bytes of the state from byte j on
unfoldable pub bytes_at : Lanes → ℕ → ℕ → Bytes
bytes_at a j zero = []
bytes_at a j (suc n) = byte_at a j ∷ bytes_at a (j + 1) n

-- the state with b added to byte j
unfoldable pub byte_added : Lanes → ℕ → ℕ → Lanes
byte_added a j b = set a (j / 8) (bit_xor (get_or a (j / 8) 0) (b * 2 ^ (8 * (j % 8))))

-- the state with the bytes p added from byte j on
unfoldable pub added : Lanes → ℕ → Bytes → Lanes
added a j [] = a
added a j (b ∷ p) = added (byte_added a j b) (j + 1) p

-- 6.2, 5.1: behind the message stand the bits 1111, then the padding 1, zeros, 1 up to the end of the block. The first bit of a byte is its
-- lowest (B.1), so the two make the bytes 1F, 00, .., 00, 80; or the one byte 9F where no more is left (B.2). A block has r bytes, n of them message.
unfoldable pub padding : ℕ → ℕ → Bytes
padding r n = cond (eqb (n + 1) r) (0x9F ∷ []) (0x1F ∷ (replicate (r - n - 2) 0 ++ (0x80 ∷ [])))

-- 4, algorithm 8, step 6: n blocks of p; each is added to the state, which is then permuted
unfoldable pub absorbed_blocks : ℕ → ℕ → Bytes → Lanes → Lanes
absorbed_blocks r zero p a = a
absorbed_blocks r (suc n) p a = absorbed_blocks r n (drop r p) (permuted (added a 0 (take r p)))

-- steps 8 and 10: n blocks; each is the first r bytes of the state, which is then permuted
unfoldable pub squeezed_blocks : ℕ → ℕ → Lanes → Bytes
squeezed_blocks r zero a = []
squeezed_blocks r (suc n) a = bytes_at a 0 r ++ squeezed_blocks r n (permuted a)

-- 6.2: SHAKE of the message m, d bytes of it: the padded message absorbed from the zero state, enough blocks squeezed, and cut to d (step 9)
unfoldable pub shake : ℕ → Bytes → ℕ → Bytes
shake r m d =
    take d
    (squeezed_blocks r (d / r + 1)
    (absorbed_blocks r (length m / r + 1) (m ++ padding r (length m % r)) (replicate 25 0)))
