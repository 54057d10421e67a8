-- A fact, or a collision among the strings of a list: one commitment of two views gives one or the other.
use mathlib.Core.Path.{◌≡◌, refl, sym, ◌∙◌}
use mathlib.Core.Logic.{◌⊎◌, inl, inr}
use mathlib.Core.List.{List, ◌++◌, List-discrete, Memᴰ}
use Prim.Native.Nat.{ℕ}
use native.Mathlib.Decide.{ℕ_discrete}
use lib.ListN.{length}
use Rattle.slices.specs.Slices.{Bytes}
use Rattle.sets.specs.declared.Set.{Set}
use Rattle.sets.specs.Sets.{IsSet}
use Rattle.hashing.specs.Hashing.{h, view, commitment}
use Rattle.hashing.proofs.HashingLaws.{length-h}
use Rattle.demands.specs.Hashed.{Hashed, hashed_for, Collision}
use Rattle.demands.proofs.JoinedLaws.{front, back}

abbrev pub entry : ℕ → Bytes → Hashed
entry i x = record { prefix = i; string = x }

-- seed, input share and transcript of two views are the same
pub record SameView (s s' x x' t t' : Bytes) : Type 0 where
  pub seed : s ≡ s'
  pub share : x ≡ x'
  pub transcript : t ≡ t'

module _ (p : Set) (l : List Hashed) where
  abbrev pub Or : Type 0 → Type 0
  Or A = A ⊎ Collision p l

  abbrev pub bind : {A B : Type 0} → Or A → (A → Or B) → Or B
  bind (inl a) f = f a
  bind (inr k) f = inr k

  -- one digest of two strings of the list
  same_string : (i : ℕ) (x y : Bytes) → Memᴰ (entry i x) l → Memᴰ (entry i y) l → h p i x ≡ h p i y → Or (x ≡ y)
  same_string i x y m n e = elim (List-discrete ℕ_discrete x y) [
    | yes s ↦ inl s
    | no d ↦
        inr
        (record {
          one = entry i x;
          two = entry i y;
          one-hashed = m;
          two-hashed = n;
          same_prefix = refl;
          different = d;
          same_digest = e;
        })
  ]

  -- one commitment of two views, all that is hashed for it in the list
  module _ (q : IsSet p) (s s' x x' t t' o o' : Bytes) (here : (k : Hashed) → Memᴰ k (hashed_for p s x t o) → Memᴰ k l)
      (here' : (k : Hashed) → Memᴰ k (hashed_for p s' x' t' o') → Memᴰ k l) where
    pub same_view : length x ≡ length x' → length t ≡ length t' → commitment p s x t o ≡ commitment p s' x' t' o'
        → Or (SameView s s' x x' t t')
    unfolding view commitment hashed_for
    same_view lx lt e =
        bind (same_string 0 _ _ (here _ (Memᴰ.tail (Memᴰ.head refl))) (here' _ (Memᴰ.tail (Memᴰ.head refl))) e) λ v.
        let d = length-h q 4 s ∙ sym (length-h q 4 s') in
        let w = back (h p 4 s) (h p 4 s') (x ++ (t ++ o)) (x' ++ (t' ++ o')) d v in
        let b = front (h p 4 s) (h p 4 s') (x ++ (t ++ o)) (x' ++ (t' ++ o')) d v in
        bind (same_string 4 s s' (here _ (Memᴰ.head refl)) (here' _ (Memᴰ.head refl)) b) λ g.
        inl (record {
          seed = g;
          share = front x x' (t ++ o) (t' ++ o') lx w;
          transcript = front t t' o o' lt (back x x' (t ++ o) (t' ++ o') lx w);
        })
