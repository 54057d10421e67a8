-- Cited by inner contracts alone: any two proofs that a signature can be made are equal, so that the fact can be a ghost field.
use Rattle.std.specs.Prelude.{List}
use Rattle.bits.specs.declared.Block.{Block}
use Rattle.std.proofs.Props.{props}
use Rattle.slices.specs.Slices.{Bytes}
use Rattle.sets.specs.declared.Set.{Set}
use Rattle.lowmc.specs.LentProp.{Lent-prop}
use Rattle.signer.specs.Played.{Ready}

pub Ready-prop : (set : Set) (keys layers constants secret public seeds : Bytes) (states : List Block)
    → IsProp (Ready set keys layers constants secret public seeds states)
Ready-prop set keys layers constants secret public seeds states = hlevel (props, Lent-prop)
