-- How many of the values of a signature are 0, 1 or 2.
use Rattle.std.specs.Prelude.{List, ℕ, eqb, count_by}

-- how many of the values are v
abbrev pub how_many : ℕ → List ℕ → ℕ
how_many v = count_by (λ e. eqb e v)
