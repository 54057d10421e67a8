-- Laws of one round: it stands alike in both forms but for the share, and its padding is that of transcript and share.
use mathlib.Core.Path.{◌≡◌, refl, ap, ◌∙◌}
use mathlib.Core.Bool.{Bool, true, false, ◌&&◌, and-true}
use mathlib.Core.List.{List, [], ◌∷◌, ◌++◌, append-nil}
use Prim.Native.Nat.{ℕ, ◌+◌, ◌*◌, ◌≤◌}
use native.Mathlib.Omega.{arith}
use native.Mathlib.Nat.{add-zero}
use lib.Dec.{eqb}
use lib.ListN.{length, take, drop, replicate, length-replicate}
use lib.Seq.{drop-drop, length-take-le}
use borrow.Author.Tests.{eq-eqb, ne_eqb, eqb-true, eqb-false}
use Rattle.slices.specs.Slices.{Bytes, part}
use Rattle.bits.specs.Bytes.{width}
use Rattle.sets.specs.declared.Set.{Set}
use Rattle.sets.specs.Lengths.{w, seed_width, transcript_length, round_least, round_most, transcript_bits}
use Rattle.shape.specs.Fields.{Field, sizes, unpack, pack, all, is_zero, zero_padded, clean, clean_slots}
use Rattle.shape.specs.Rounds.{always, round_fields}
use Rattle.shape.proofs.PaddingLaws.{width-whole, padded-whole, padded-bytes}
use Rattle.shape.proofs.FieldLaws.{unpack-append, pack-append, unpack_tight, pack_tight}
use Rattle.shape.proofs.PartLaws.{part-take, part_front, part-behind}
use Rattle.shape.proofs.RoundsLaws.{sizes_zero, sizes-other}

-- ---- the bytes of a round

module _ (p : Set) (e : ℕ) where
  body : List Field
  body = always (8 * p.digest) ∷ always (transcript_bits p) ∷ always p.seed ∷ always p.seed ∷ []

  whole : List Field
  whole = always (8 * p.digest) ∷ always (transcript_bits p) ∷ always p.seed ∷ always p.seed ∷ always p.n ∷ []

  end : List Field
  end = record { bits = 0; blank = w p } ∷ []

  split : e ≡ 0 → round_fields p e ≡ body ++ end
  unfolding round_fields body end
  split z = rw (eq-eqb e 0 z)

  least : sizes body ≡ round_least p
  unfolding sizes body
  least = omega (arith, width-whole p.digest)

  -- with the share it is the same in both forms
  pub unpack-other : (e ≡ 0 → ⊥) → (s : Bytes) → unpack (round_fields p e) s ≡ take (round_most p) s
  unfolding round_fields whole
  unpack-other z s =
      let t = unpack_tight whole (refl, (refl, (refl, (refl, (refl, tt))))) s in
      rw (← (sizes-other p e z), ne_eqb e 0 z) t

  -- without it the slot ends in zeros
  pub unpack_zero : e ≡ 0 → (s : Bytes) → unpack (round_fields p e) s ≡ take (round_least p) s ++ replicate (w p) 0
  unfolding unpack end body width
  unpack_zero z s =
      rw (split z, ← least)
      (unpack-append end body s
      ∙ (ap (λ (l : Bytes). l ++ (replicate (w p) 0 ++ [])) (unpack_tight body (refl, (refl, (refl, (refl, tt)))) s)
      ∙ ap (λ (l : Bytes). take (sizes body) s ++ l) (append-nil (replicate (w p) 0))))

  without : e ≡ 0 → (x : Bytes) → pack (round_fields p e) x ≡ take (sizes (round_fields p e)) x
  unfolding pack end body width
  without z x =
      rw (sizes_zero p e z, ← least, split z)
      (pack-append end body x ∙ (append-nil (pack body x) ∙ pack_tight body (refl, (refl, (refl, (refl, tt)))) x))

  with_share : (e ≡ 0 → ⊥) → (x : Bytes) → pack (round_fields p e) x ≡ take (sizes (round_fields p e)) x
  unfolding round_fields whole
  with_share z x = rw (ne_eqb e 0 z) (pack_tight whole (refl, (refl, (refl, (refl, (refl, tt))))) x)

  -- a signature has the start of the slot
  pub pack-round : (x : Bytes) → pack (round_fields p e) x ≡ take (sizes (round_fields p e)) x
  pack-round x = go (eqb e 0) refl
    where
      go : (b : Bool) → eqb e 0 ≡ b → pack (round_fields p e) x ≡ take (sizes (round_fields p e)) x
      go true z = without (eqb-true e 0 z) x
      go false z = with_share (eqb-false e 0 z) x

  -- the parts before the share stand alike
  pub part_of_slot : (s : Bytes) (at n : ℕ) → at + n ≤ round_least p → round_least p ≤ length s
      → part (unpack (round_fields p e) s) at n ≡ part s at n
  part_of_slot s at n h l = go (eqb e 0) refl
    where
      go : (b : Bool) → eqb e 0 ≡ b → part (unpack (round_fields p e) s) at n ≡ part s at n
      go true z =
          ap (λ (x : Bytes). part x at n) (unpack_zero (eqb-true e 0 z) s)
          ∙ (part_front (take (round_least p) s) (replicate (w p) 0) at n (omega (arith, length-take-le (round_least p) s l)) ∙ part-take s
          (round_least p) at n h)
      go false z = ap (λ (x : Bytes). part x at n) (unpack-other (eqb-false e 0 z) s) ∙ part-take s (round_most p) at n (omega arith)

  -- and the share where there is one
  pub share_of_slot : (e ≡ 0 → ⊥) → (s : Bytes) → part (unpack (round_fields p e) s) (round_least p) (w p) ≡ part s (round_least p) (w p)
  share_of_slot z s =
      ap (λ (x : Bytes). part x (round_least p) (w p)) (unpack-other z s) ∙ part-take s (round_most p) (round_least p) (w p) (omega arith)

  pub no_share_of_slot : e ≡ 0 → (s : Bytes) → round_least p ≤ length s
      → part (unpack (round_fields p e) s) (round_least p) (w p) ≡ replicate (w p) 0
  no_share_of_slot z s l =
      ap (λ (x : Bytes). part x (round_least p) (w p)) (unpack_zero z s)
      ∙ part-behind (take (round_least p) s) (replicate (w p) 0) (round_least p) (w p) (length-take-le (round_least p) s l)
      (length-replicate (w p) 0)

-- ---- the padding of a round, where seeds are whole bytes

module _ (p : Set) (seeds-whole : 8 * seed_width p ≡ p.seed) (e : ℕ) (s : Bytes) where
  seeds : (l : Bytes) → zero_padded p.seed l ≡ true
  seeds = padded-whole p.seed seeds-whole

  digests : (l : Bytes) → zero_padded (8 * p.digest) l ≡ true
  digests = padded-bytes p.digest

  nothing : (l : Bytes) → zero_padded 0 l ≡ true
  nothing = padded-bytes 0

  digest : width (8 * p.digest) ≡ p.digest
  digest = width-whole p.digest

  none : width 0 ≡ 0
  none = width-whole 0

  before_share : p.digest + transcript_length p + seed_width p + seed_width p ≡ round_least p
  before_share = omega arith

  pub clean_zero : e ≡ 0 → clean (round_fields p e) s ≡ zero_padded (transcript_bits p) (drop p.digest s)
  unfolding clean round_fields
  clean_zero z = rw (eq-eqb e 0 z) (simp (digests, seeds, nothing, digest, and-true))

  pub clean-other : (e ≡ 0 → ⊥) → clean (round_fields p e) s ≡ (zero_padded (transcript_bits p) (drop p.digest s) && zero_padded p.n (drop (round_least p) s))
  unfolding clean round_fields
  clean-other z = rw (ne_eqb e 0 z) (simp (digests, seeds, digest, drop-drop, before_share, and-true))

  pub slots_zero : e ≡ 0 → clean_slots (round_fields p e) s ≡ (zero_padded (transcript_bits p) (drop p.digest s) && all is_zero (part s (round_least p) (w p)))
  unfolding clean_slots round_fields all
  slots_zero z = rw (eq-eqb e 0 z) (simp (digests, seeds, nothing, digest, none, add-zero, drop-drop, before_share, and-true))

  pub slots_other : (e ≡ 0 → ⊥)
      → clean_slots (round_fields p e) s ≡ (zero_padded (transcript_bits p) (drop p.digest s) && zero_padded p.n (drop (round_least p) s))
  unfolding clean_slots round_fields all
  slots_other z = rw (ne_eqb e 0 z) (simp (digests, seeds, digest, add-zero, drop-drop, before_share, and-true))
