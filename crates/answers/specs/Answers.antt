-- The numbers that a host gets back: 01's table of refusals, the first check that holds, and the answer of a call.
use Rattle.std.specs.Prelude.{◌≡◌, Bool, cond, List, [], ◌∷◌, ℕ, ◌+◌, ◌*◌, ◌/◌, ◌%◌, ◌^◌, ◌<◌, Result, Ok, Err, is_ok}
use Rattle.answers.specs.declared.Refusal.{Refusal}
use Rattle.answers.specs.declared.Refusal.TheVariants.{NoSet, Table, Key, Message, Limit, Room, Pair, Blocks, Length, Header, Padding, Differs}

-- what checks come to: nothing is refused, or a refusal
abbrev pub Checked : Type 0
Checked = Result Unit Refusal

-- nothing is refused: done, or valid
abbrev pub Fine : Checked
Fine = Ok tt

abbrev pub fine : Checked → Bool
fine c = is_ok c

-- 01's number of each refusal
abbrev pub number : Refusal → ℕ
number NoSet = 1
number Table = 2
number Key = 3
number Message = 4
number Limit = 5
number Room = 6
number Pair = 7
number Blocks = 8
number Length = 9
number Header = 10
number Padding = 11
number Differs = 12

-- and 0 where nothing is refused
abbrev pub code : Checked → ℕ
code (Ok done) = 0
code (Err r) = number r

-- a check: its condition, and what is answered if it holds
pub record Check : Type 0 where
  pub holds : Bool
  pub gives : Refusal

abbrev pub when : Bool → Refusal → Check
when b r = record { holds = b; gives = r }

-- the first check that holds is answered
unfoldable pub first : List Check → Checked
first [] = Fine
first (k ∷ ks) = cond k.holds (Err k.gives) (first ks)

-- refusal number × 2^32 + bytes written
abbrev pub answer : Checked → ℕ → ℕ
answer c length = code c * 2 ^ 32 + length

-- of a call that refuses, or tells the bytes written
abbrev pub as_answer : Result ℕ Refusal → ℕ
as_answer (Ok length) = answer Fine length
as_answer (Err r) = answer (Err r) 0

-- the halves of a number that a host gets back: above the refusal's number, below the bytes written, fewer than 2^32
pub record Halves (back : ℕ) (c : Checked) (n : ℕ) : Type 0 where
  pub upper : back / 2 ^ 32 ≡ code c
  pub lower : back % 2 ^ 32 ≡ n
  pub small : n < 2 ^ 32
