-- Reading a signature gives its unpacked form, writing an unpacked form gives its signature, or each refuses: the first
-- check that holds is answered.
use Rattle.std.specs.Prelude.{Bool, not, ◌||◌, List, [], ◌∷◌, ℕ, ◌+◌, ◌*◌, length, drop, Option}
use Rattle.slices.specs.Slices.{Bytes}
use Rattle.sets.specs.declared.Set.{Set}
use Rattle.sets.specs.Sets.{numbered}
use Rattle.sets.specs.Lengths.{salt_length, header_length, longest, unpacked_length}
use Rattle.answers.specs.declared.Refusal.TheVariants.{Room, Length, Header, Padding}
use Rattle.answers.specs.Answers.{Check, when}
use Rattle.answers.specs.Conditions.{other, too_short}
use Rattle.answers.specs.Outcome.{Outcome, unless, behind, with_set, Promise}
use Rattle.shape.specs.Fields.{all, zero_padded, clean, clean_slots}
use Rattle.shape.specs.Header.{values, is_value}
use Rattle.shape.specs.Rounds.{fields, signature_length}
use Rattle.shape.specs.Form.{form, values_in, signature}

-- 10: a header pair 11, or header padding not zero
unfoldable pub header_wrong : Set → Bytes → Bool
header_wrong set s = not (all is_value (values set s)) || not (zero_padded (2 * set.t) s)

-- 11: transcript padding not zero; in the three sets no other field has padding
unfoldable pub padding_wrong : Set → Bytes → Bool
padding_wrong set s = not (clean (fields set (values set s)) (drop (header_length set) s))

-- 9 if shorter than header and salt, 10, 9 for the full length, 11
unfoldable pub read_checks : Set → Bytes → List Check
read_checks set s =
    when (too_short (header_length set + salt_length) (length s)) Length
    ∷ when (header_wrong set s) Header
    ∷ when (other (signature_length set (values set s)) (length s)) Length
    ∷ when (padding_wrong set s) Padding
    ∷ []

-- reading: the first refusal, or the unpacked form
unfoldable pub reading : Set → Bytes → Outcome
reading set s = unless (read_checks set s) (form set s)

-- 10, unpacked: a value over 2
unfoldable pub value_wrong : Set → Bytes → Bool
value_wrong set x = not (all is_value (values_in set x))

-- 11, unpacked: transcript padding not zero, or a share not zero beside value 0
unfoldable pub slot_wrong : Set → Bytes → Bool
slot_wrong set x = not (clean_slots (fields set (values_in set x)) (drop set.t x))

-- 9, 10, 11
unfoldable pub write_checks : Set → Bytes → List Check
write_checks set x =
    when (other (unpacked_length set) (length x)) Length
    ∷ when (value_wrong set x) Header
    ∷ when (slot_wrong set x) Padding
    ∷ []

-- writing: the first refusal, or the signature
unfoldable pub writing : Set → Bytes → Outcome
writing set x = unless (write_checks set x) (signature set x)

-- reading into an output of some length: 6 if it cannot hold the unpacked form, then as above
unfoldable pub read_into : Set → (s : Bytes) → (output : ℕ) → Outcome
read_into set s output = behind (when (too_short (unpacked_length set) output) Room) (reading set s)

-- writing into an output of some length: 6 if it cannot hold the longest signature, then as above
unfoldable pub write_into : Set → (x : Bytes) → (output : ℕ) → Outcome
write_into set x output = behind (when (too_short (longest set) output) Room) (writing set x)

-- reading as a call: 1 if there is no such set, then as above
unfoldable pub read : Option Set → (s : Bytes) → (output : ℕ) → Outcome
read c s output = with_set c (λ set. read_into set s output)

-- writing as a call: likewise
unfoldable pub write : Option Set → (x : Bytes) → (output : ℕ) → Outcome
write c x output = with_set c (λ set. write_into set x output)

-- what picnic_read promises: its answer, and its output from what it held before
abbrev pub ReadPromise : (set_number : ℕ) (s before : Bytes) (back : ℕ) (after : Bytes) → Type 0
ReadPromise set_number s before = Promise (read (numbered set_number) s (length before)) before

-- what picnic_write promises
abbrev pub WritePromise : (set_number : ℕ) (x before : Bytes) (back : ℕ) (after : Bytes) → Type 0
WritePromise set_number x before = Promise (write (numbered set_number) x (length before)) before
