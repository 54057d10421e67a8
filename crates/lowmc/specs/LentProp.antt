-- Cited by inner contracts alone: any two proofs that the tables of a set are lent are equal, so that the fact can be a ghost field.
use Rattle.std.proofs.Props.{props}
use Rattle.slices.specs.Slices.{Bytes}
use Rattle.sets.specs.declared.Set.{Set}
use Rattle.sets.specs.SetsProp.{IsSet-prop}
use Rattle.lowmc.specs.Lent.{Lent}

pub Lent-prop : (p : Set) (keys layers constants : Bytes) → IsProp (Lent p keys layers constants)
Lent-prop p keys layers constants = hlevel (props, IsSet-prop)
