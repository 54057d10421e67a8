-- What the block limit does to the outcome of the challenge call.
use Rattle.std.specs.Prelude.{◌≡◌, ◌⊎◌, false, ℕ, ◌≤◌, Option}
use Rattle.sets.specs.declared.Set.{Set}
use Rattle.slices.specs.Slices.{Bytes}
use Rattle.sets.specs.Sets.{numbered}
use Rattle.answers.specs.declared.Refusal.TheVariants.{Blocks}
use Rattle.answers.specs.Conditions.{limit_out}
use Rattle.answers.specs.Outcome.{refused, gives}
use Rattle.challenge.specs.ChallengeCall.{challenged}

-- block limit 1, set 1: 8 once the earlier checks pass, for 128 pairs can't fill 219
unfoldable pub OneBlockIsTooFew : Type 0
OneBlockIsTooFew = (input : Bytes) (output : ℕ) → 219 ≤ output → challenged (numbered 1) input 1 output ≡ refused Blocks

-- a larger legal limit changes no answer but 8
unfoldable pub LimitSettlesBlocks : Type 0
LimitSettlesBlocks =
    (c : Option Set) (input : Bytes) (limit larger output : ℕ) → limit_out limit ≡ false → limit ≤ larger → larger ≤ 64
    → (challenged c input limit output ≡ refused Blocks) ⊎ (challenged c input larger output ≡ challenged c input limit output)

-- where a limit gives values, every larger legal limit gives the same
unfoldable pub LargerLimitGivesSame : Type 0
LargerLimitGivesSame =
    (c : Option Set) (input : Bytes) (limit larger output : ℕ) (vs : Bytes) → challenged c input limit output ≡ gives vs → limit ≤ larger → larger ≤ 64
    → challenged c input larger output ≡ gives vs
