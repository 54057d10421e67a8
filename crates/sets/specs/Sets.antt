-- The three sets of 01's table, and which number names which.
use Rattle.std.specs.Prelude.{cond, ℕ, eqb, Option, Some, None}
use Rattle.sets.specs.declared.Set.{Set}

-- picnic-L1-FS
abbrev pub l1 : Set
l1 = record { n = 128; seed = 128; s = 10; r = 20; t = 219; rate = 168; digest = 32 }

-- picnic-L3-FS
abbrev pub l3 : Set
l3 = record { n = 192; seed = 192; s = 10; r = 30; t = 329; rate = 136; digest = 48 }

-- picnic-L5-FS
abbrev pub l5 : Set
l5 = record { n = 256; seed = 256; s = 10; r = 38; t = 438; rate = 136; digest = 64 }

-- a set is one of the three
pub data IsSet : Set → Type 0 where
  is_l1 : IsSet l1
  is_l3 : IsSet l3
  is_l5 : IsSet l5

-- the set of a number: 1, 2 or 3, and no other
abbrev pub numbered : ℕ → Option Set
numbered k = cond (eqb k 1) (Some l1) (cond (eqb k 2) (Some l3) (cond (eqb k 3) (Some l5) None))
