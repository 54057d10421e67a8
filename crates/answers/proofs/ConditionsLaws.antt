-- A length held against the one that a set asks for, and what holds where a condition does not.
use mathlib.Core.Path.{◌≡◌, refl, sym, ap, ◌∙◌, subst}
use mathlib.Core.Bool.{Bool, true, false, cond, ◌||◌}
use Prim.Native.Nat.{ℕ, ◌≤◌, ◌<◌}
use native.Mathlib.Omega.{arith}
use lib.Dec.{eqb}
use borrow.Author.Tests.{eq-eqb, ne_eqb, eqb-true, not-false, lt-ltb, le-ltb}
use Rattle.sets.specs.declared.Set.{Set}
use Rattle.sets.specs.Lengths.{w, keys_length, layers_length, constants_length, public_length}
use Rattle.answers.specs.Conditions.{other, tables_other, blocks_other, keys_other, too_short}

-- x is the length wanted, asked of the set
pub other-true : (wanted x found : ℕ) → x ≡ wanted → (found ≡ x → ⊥) → other wanted found ≡ true
other-true wanted x found e n = rw (ne_eqb found wanted (λ q. n (q ∙ sym e)))

pub other-false : (wanted x found : ℕ) → x ≡ wanted → found ≡ x → other wanted found ≡ false
other-false wanted x found e q = rw (eq-eqb found wanted (q ∙ e))

pub short_true : (wanted x found : ℕ) → x ≡ wanted → found < x → too_short wanted found ≡ true
short_true wanted x found e l = lt-ltb found wanted (subst (λ (n : ℕ). found < n) e l)

pub short_false : (wanted x found : ℕ) → x ≡ wanted → x ≤ found → too_short wanted found ≡ false
short_false wanted x found e l = le-ltb found wanted (subst (λ (n : ℕ). n ≤ found) e l)

-- ---- what holds where a condition does not

-- of two conditions, neither holds
pub neither : (a b : Bool) → (a || b) ≡ false → (a ≡ false) × (b ≡ false)
neither true b e = absurd (let z : ◌≡◌ {A = ℕ} 0 1 = ap (λ (c : Bool). cond c 0 1) e in omega arith)
neither false b e = (refl, e)

pub same_length : (wanted found : ℕ) → other wanted found ≡ false → found ≡ wanted
same_length wanted found e = eqb-true found wanted (not-false (eqb found wanted) e)

pub tables_same : (p : Set) (keys layers constants : ℕ) → tables_other p keys layers constants ≡ false
    → (keys ≡ keys_length p) × (layers ≡ layers_length p) × (constants ≡ constants_length p)
unfolding tables_other
tables_same p keys layers constants e =
    let both = neither (other (keys_length p) keys || other (layers_length p) layers) (other (constants_length p) constants) e in
    let two = neither (other (keys_length p) keys) (other (layers_length p) layers) both.0 in
    (same_length (keys_length p) keys two.0, same_length (layers_length p) layers two.1, same_length (constants_length p) constants both.1)

pub blocks_same : (p : Set) (secret block : ℕ) → blocks_other p secret block ≡ false → (secret ≡ w p) × (block ≡ w p)
unfolding blocks_other
blocks_same p secret block e =
    let two = neither (other (w p) secret) (other (w p) block) e in
    (same_length (w p) secret two.0, same_length (w p) block two.1)

pub keys_same : (p : Set) (secret public : ℕ) → keys_other p secret public ≡ false → (secret ≡ w p) × (public ≡ public_length p)
unfolding keys_other
keys_same p secret public e =
    let two = neither (other (w p) secret) (other (public_length p) public) e in
    (same_length (w p) secret two.0, same_length (public_length p) public two.1)
