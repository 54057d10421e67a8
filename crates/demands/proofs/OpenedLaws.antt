-- Laws of what is recomputed from an opening: the length of a share, and what is hashed for it.
use mathlib.Core.Path.{◌≡◌}
use mathlib.Core.List.Memᴰ
use mathlib.Core.List.{List, Memᴰ}
use Prim.Native.Nat.{ℕ}
use lib.ListN.{length}
use Rattle.slices.specs.Slices.{Bytes}
use Rattle.bits.specs.Bytes.{width}
use Rattle.bits.proofs.BytesLaws.{length-bytes_of}
use Rattle.sets.specs.declared.Set.{Set}
use Rattle.circuit.specs.Lowmc.{Cipher}
use Rattle.circuit.specs.Round.{Party, party0, party1, party2, next}
use Rattle.circuit.specs.Tapes.{tape_share}
use Rattle.shape.specs.Form.{Shown}
use Rattle.views.specs.Opened.{opened_share, share₁, share₂, recomputed_transcript, recomputed_outputs}
use Rattle.demands.specs.Hashed.{Hashed, hashed_for, hashed_by}

pub length-share : (C : Cipher) (j : Party) (tape given : Bytes) → length given ≡ width C.n → length (opened_share C j tape given) ≡ width C.n
unfolding tape_share
length-share C party0 tape given l = length-bytes_of C.n _
length-share C party1 tape given l = length-bytes_of C.n _
length-share C party2 tape given l = l

module _ (p : Set) (C : Cipher) (salt : Bytes) (t : ℕ) (e : Party) (u : Shown) (block cipher : Bytes) where
  -- what is hashed for party e, and for party e+1
  abbrev hashed₁ : List Hashed
  hashed₁ =
      hashed_for p u.seed1 (share₁ p C salt t e u) (recomputed_transcript p C salt t e u block cipher)
      (recomputed_outputs p C salt t e u block cipher e)

  abbrev hashed₂ : List Hashed
  hashed₂ = hashed_for p u.seed2 (share₂ p C salt t e u) u.transcript (recomputed_outputs p C salt t e u block cipher (next e))

  pub in_first : {k : Hashed} → Memᴰ k hashed₁ → Memᴰ k (hashed_by p C salt t block cipher e u)
  unfolding hashed_by
  in_first m = Memᴰ.append_left hashed₂ m

  pub in_second : {k : Hashed} → Memᴰ k hashed₂ → Memᴰ k (hashed_by p C salt t block cipher e u)
  unfolding hashed_by
  in_second m = Memᴰ.append_right hashed₁ m
