-- Demand 2 at picnic_read and picnic_write: each undoes the other, in the numbers and bytes that a host sees.
use Rattle.std.specs.Prelude.{◌≡◌, ℕ, ◌^◌, ◌≤◌, ◌<◌, length, take, Some}
use Rattle.slices.specs.Slices.{Bytes, over}
use Rattle.sets.specs.declared.Set.{Set}
use Rattle.sets.specs.Sets.{numbered}
use Rattle.sets.specs.Lengths.{longest, unpacked_length}
use Rattle.shape.specs.Reading.{ReadPromise, WritePromise}
use Rattle.shape.specs.RoundTrips.{AreBytes}

-- reading answers a length alone: then writing what it left answers the signature's length and leaves the signature, at the
-- start of any output that holds the longest
unfoldable pub ReadThenWritten : Type 0
ReadThenWritten =
    (set_number : ℕ) (s before after : Bytes) (n : ℕ) → AreBytes s → ReadPromise set_number s before n after → n < 2 ^ 32
    → (output last : Bytes) (m : ℕ) → ((set : Set) → numbered set_number ≡ Some set → longest set ≤ length output)
    → WritePromise set_number (take n after) output m last → (m ≡ length s) × (last ≡ over s output)

-- writing answers a length alone: then reading what it left answers the form's length and leaves the form, at the start of any
-- output that holds an unpacked form
unfoldable pub WrittenThenRead : Type 0
WrittenThenRead =
    (set_number : ℕ) (x before after : Bytes) (n : ℕ) → WritePromise set_number x before n after → n < 2 ^ 32
    → (output last : Bytes) (m : ℕ) → ((set : Set) → numbered set_number ≡ Some set → unpacked_length set ≤ length output)
    → ReadPromise set_number (take n after) output m last → (m ≡ length x) × (last ≡ over x output)
