-- Cited by inner contracts alone: a set is one of the three in one way, so that a fact made of that can be a ghost field.
use mathlib.Core.Path.{refl}
use Rattle.sets.specs.declared.Set.{Set}
use Rattle.sets.specs.Sets.{IsSet, is_l1, is_l3, is_l5}

pub IsSet-prop : (p : Set) → IsProp (IsSet p)
IsSet-prop p is_l1 is_l1 = refl
IsSet-prop p is_l3 is_l3 = refl
IsSet-prop p is_l5 is_l5 = refl
