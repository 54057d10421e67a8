-- 01's examples of the pair rule hold by computing.
use mathlib.Core.Path.{refl}
use Rattle.slices.specs.Slices.{joined}
use Rattle.bits.specs.Bytes.{odd, bit, bits_of, value}
use Rattle.challenge.specs.Pairs.{pair, value_of, values_to, all_values}
use Rattle.challenge.specs.Examples.{PairExamples}

pub pair_examples : PairExamples
unfolding PairExamples all_values values_to value_of pair joined value bits_of bit odd
pair_examples = (refl, refl)
