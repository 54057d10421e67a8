-- What stands behind the header: the salt, then for each round the commitment, the transcript of party e+1, the seeds of e
-- and e+1, and the input share of party 2 if e is 1 or 2.
use Rattle.std.specs.Prelude.{cond, List, [], ◌∷◌, ◌++◌, ℕ, ◌+◌, ◌*◌, eqb, take}
use Rattle.sets.specs.declared.Set.{Set}
use Rattle.sets.specs.Lengths.{w, salt_length, transcript_bits, header_length}
use Rattle.shape.specs.Fields.{Field, sizes}

-- a field of m bits that both forms have
abbrev pub always : ℕ → Field
always m = record { bits = m; blank = 0 }

-- the input share: a signature has it if e is 1 or 2; its slot is blank where e is 0
abbrev pub share_field : Set → ℕ → Field
share_field set e = cond (eqb e 0) (record { bits = 0; blank = w set }) (always set.n)

-- a round of value e
unfoldable pub round_fields : Set → ℕ → List Field
round_fields set e = always (8 * set.digest) ∷ always (transcript_bits set) ∷ always set.seed ∷ always set.seed ∷ share_field set e ∷ []

-- the rounds of the values es
unfoldable pub rounds_fields : Set → List ℕ → List Field
rounds_fields set [] = []
rounds_fields set (e ∷ es) = round_fields set e ++ rounds_fields set es

-- the salt, then the rounds
abbrev pub fields : Set → List ℕ → List Field
fields set es = always (8 * salt_length) ∷ rounds_fields set es

-- the length of a signature whose header has the values es
abbrev pub signature_length : Set → List ℕ → ℕ
signature_length set es = header_length set + sizes (fields set es)

-- where round k starts in it
abbrev pub round_start : Set → List ℕ → ℕ → ℕ
round_start set es k = signature_length set (take k es)
