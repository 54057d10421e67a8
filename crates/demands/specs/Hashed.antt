-- The strings that openings of a round hash for their commitments, and two of them that have one digest.
use Rattle.std.specs.Prelude.{◌≡◌, ℕ}
use mathlib.Core.List.{List, [], ◌∷◌, ◌++◌, Memᴰ}
use Rattle.slices.specs.Slices.{Bytes}
use Rattle.sets.specs.declared.Set.{Set}
use Rattle.circuit.specs.Lowmc.{Cipher}
use Rattle.circuit.specs.Round.{Party, party0, party1, party2, next}
use Rattle.hashing.specs.Hashing.{h, view}
use Rattle.shape.specs.Form.{Shown}
use Rattle.views.specs.Opened.{share₁, share₂, recomputed_transcript, recomputed_outputs}

-- a string that H_i hashes, and i
pub record Hashed : Type 0 where
  pub prefix : ℕ
  pub string : Bytes

-- for the commitment of a party: its seed by H_4, then its view by H_0
unfoldable pub hashed_for : Set → (seed share transcript output : Bytes) → List Hashed
hashed_for set seed share transcript output =
    record { prefix = 4; string = seed } ∷ record { prefix = 0; string = view set seed share transcript output } ∷ []

module _ (set : Set) (L : Cipher) (salt : Bytes) (t : ℕ) (p C : Bytes) where
  -- for the opened parties e and e+1
  unfoldable pub hashed_by : Party → Shown → List Hashed
  hashed_by e u =
      hashed_for set u.seed1 (share₁ set L salt t e u) (recomputed_transcript set L salt t e u p C)
      (recomputed_outputs set L salt t e u p C e)
      ++ hashed_for set u.seed2 (share₂ set L salt t e u) u.transcript (recomputed_outputs set L salt t e u p C (next e))

  -- by three openings, u e for challenge e
  unfoldable pub hashed_by_three : (u : Party → Shown) → List Hashed
  hashed_by_three u = hashed_by party0 (u party0) ++ (hashed_by party1 (u party1) ++ hashed_by party2 (u party2))

-- two different strings of a list have one digest under the same prefix
pub record Collision (set : Set) (l : List Hashed) : Type 0 where
  pub one : Hashed
  pub two : Hashed
  pub one-hashed : Memᴰ one l
  pub two-hashed : Memᴰ two l
  pub same_prefix : one.prefix ≡ two.prefix
  pub different : ¬ (one.string ≡ two.string)
  pub same_digest : h set one.prefix one.string ≡ h set two.prefix two.string
