-- The start of an output filled place by place, as numbers one after the other.
use mathlib.Core.Path.{◌≡◌, refl, sym, ◌∙◌}
use mathlib.Core.List.{[], ◌∷◌, ◌++◌}
use Prim.Native.Nat.{ℕ, ◌≤◌, ◌<◌}
use native.Mathlib.Omega.{arith}
use native.Mathlib.Nat.{mul-one}
use lib.ListN.{length, take, drop, get_or}
use lib.Seq.{length-take-le}
use Rattle.std.proofs.lemmas.Grind.{same_number_lists}
use Rattle.slices.specs.Slices.{Bytes, over, joined}
use Rattle.slices.proofs.SliceLaws.{length-joined}
use Rattle.shape.proofs.HeaderLaws.{get_d_joined}

-- each of the first n places holds its number, the rest is kept
pub front_filled : (f : ℕ → ℕ) (n i : ℕ) (xs out : Bytes) → n ≤ length out → length xs ≡ length (take n out) → length (take n out) ≤ i
    → ((k : ℕ) → k < i → get_or xs k 0 ≡ f k) → xs ++ drop n out ≡ over (joined n (λ k. f k ∷ [])) out
unfolding over
front_filled f n i xs out h l g each =
    let t : length (take n out) ≡ n = length-take-le n out h in
    let j : length (joined n (λ k. f k ∷ [])) ≡ n = length-joined 1 (λ k. f k ∷ []) (λ k. refl) n ∙ mul-one n in
    let e : xs ≡ joined n (λ k. f k ∷ []) =
    same_number_lists _ _ (l ∙ (t ∙ sym j)) (λ k q. each k (omega arith) ∙ sym (get_d_joined f n k (omega arith))) in
    rw (e, j) refl
