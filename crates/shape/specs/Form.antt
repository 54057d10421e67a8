-- The unpacked form: T values, one a byte; the salt; then for each round the commitment, the transcript, two seeds and w
-- bytes of input share, zeros where e is 0. Its places do not depend on the values.
use Rattle.std.specs.Prelude.{◌≡◌, List, ◌++◌, ℕ, ◌+◌, ◌*◌, length, take, drop}
use Rattle.slices.specs.Slices.{Bytes, part, joined}
use Rattle.sets.specs.declared.Set.{Set}
use Rattle.sets.specs.Lengths.{w, seed_width, transcript_length, salt_length, header_length, round_most}
use Rattle.shape.specs.Fields.{pack, unpack}
use Rattle.shape.specs.Header.{header_of, values}
use Rattle.shape.specs.Rounds.{round_fields, fields}

-- the unpacked form of a signature
unfoldable pub form : Set → Bytes → Bytes
form set s = values set s ++ unpack (fields set (values set s)) (drop (header_length set) s)

-- the values of an unpacked form
abbrev pub values_in : Set → Bytes → List ℕ
values_in set x = take set.t x

-- the signature of an unpacked form
unfoldable pub signature : Set → Bytes → Bytes
signature set x = header_of set (values_in set x) ++ pack (fields set (values_in set x)) (drop set.t x)

-- what a signature shows of a round of value e: the commitment of party e+2, the transcript of e+1, the seeds of e and e+1,
-- and the input share of party 2
pub record Shown : Type 0 where
  pub commitment : Bytes
  pub transcript : Bytes
  pub seed1 : Bytes
  pub seed2 : Bytes
  pub share : Bytes

-- it has its lengths
pub record Sized (set : Set) (u : Shown) : Type 0 where
  pub commitment : length u.commitment ≡ set.digest
  pub transcript : length u.transcript ≡ transcript_length set
  pub seed1 : length u.seed1 ≡ seed_width set
  pub seed2 : length u.seed2 ≡ seed_width set
  pub share : length u.share ≡ w set

-- a round in the unpacked form
unfoldable pub slot_of : Shown → Bytes
slot_of u = u.commitment ++ (u.transcript ++ (u.seed1 ++ (u.seed2 ++ u.share)))

-- a round of value e in a signature
unfoldable pub round_of : Set → ℕ → Shown → Bytes
round_of set e u = pack (round_fields set e) (slot_of u)

-- the unpacked form of values, a salt and what is shown of each round
unfoldable pub form_of : Set → List ℕ → (salt : Bytes) → (ℕ → Shown) → Bytes
form_of set es salt us = es ++ (salt ++ joined set.t (λ k. slot_of (us k)))

-- the salt of an unpacked form
abbrev pub salt_in : Set → Bytes → Bytes
salt_in set x = part x set.t salt_length

-- where round k starts in it
abbrev pub slot_at : Set → ℕ → ℕ
slot_at set k = set.t + salt_length + k * round_most set

-- what is shown of round k in it
unfoldable pub shown_in : Set → Bytes → ℕ → Shown
shown_in set x k =
    let a = slot_at set k in
    let b = a + set.digest in
    let c = b + transcript_length set in
    let d = c + seed_width set in
    record {
      commitment = part x a set.digest;
      transcript = part x b (transcript_length set);
      seed1 = part x c (seed_width set);
      seed2 = part x d (seed_width set);
      share = part x (d + seed_width set) (w set);
    }
