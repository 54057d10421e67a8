-- Laws of loops over an array that set each element once.
use mathlib.Core.Path.{◌≡◌, refl, sym, ◌∙◌, subst}
use Prim.Native.Nat.{ℕ, ◌+◌, ◌≤◌, ◌<◌}
use mathlib.Core.List.{List}
use native.Mathlib.Omega.{arith}
use borrow.Author.Count.{below_more}
use lib.ListN.{length, get_or, set, length-set}
use Rattle.std.proofs.Common.{◌≢◌, get_or-set_other, get_or-set_same}

module _ {A : Type 0} (n : ℕ) (d : A) (P : ℕ → A → Type 0) (old : List A) where
  -- what the first i of n elements became meets P, and the others are as they were
  pub record SetBelow (xs : List A) (i : ℕ) : Type 0 where
    pub long : length xs ≡ n
    pub done : (k : ℕ) → k < i → P k (get_or xs k d)
    pub rest : (k : ℕ) → i ≤ k → get_or xs k d ≡ get_or old k d

  pub set_none : length old ≡ n → SetBelow old 0
  set_none e = record { long = e; done = λ k l. absurd (omega arith); rest = λ k l. refl }

  pub set_more : {xs : List A} {i : ℕ} (y : A) → SetBelow xs i → i < n → (get_or xs i d ≡ get_or old i d → P i y) → SetBelow (set xs i y) (i + 1)
  set_more {xs} {i} y s l p = record {
    long = length-set xs i y ∙ s.long;
    done = below_more _ _
        (λ k h. let ne : k ≢ i = omega arith in subst (P k) (sym (get_or-set_other xs i k y d ne)) (s.done k h))
        (let lt : i < length xs = omega (arith, s.long) in subst (P i) (sym (get_or-set_same xs i y d lt)) (p (s.rest i (omega arith))));
    rest = λ k h. let ne : k ≢ i = omega arith in get_or-set_other xs i k y d ne ∙ s.rest k (omega arith);
  }
