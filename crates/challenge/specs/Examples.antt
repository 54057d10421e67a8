-- 01's examples of the pair rule, P9 and P10.
use Rattle.std.specs.Prelude.{◌≡◌, [], ◌∷◌}
use Rattle.challenge.specs.Pairs.{all_values}

-- block byte 1B hex gives 0, 1, 2; FF gives nothing
unfoldable pub PairExamples : Type 0
PairExamples = (all_values (0x1B ∷ []) ≡ 0 ∷ 1 ∷ 2 ∷ []) × (all_values (0xFF ∷ []) ≡ [])
