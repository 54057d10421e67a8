-- Cited by inner contracts alone: where the parts of a round stand in a signature, and what a walk through its rounds finds.
use Rattle.std.specs.Prelude.{◌≡◌, ℕ, ◌+◌, ◌-◌, ◌≤◌, length, get_or, replicate}
use Rattle.slices.specs.Slices.{Bytes, part}
use Rattle.sets.specs.declared.Set.{Set}
use Rattle.sets.specs.Lengths.{w, seed_width, transcript_length, round_least}
use Rattle.shape.specs.Fields.{sizes}
use Rattle.shape.specs.Header.{values}
use Rattle.shape.specs.Rounds.{round_fields, round_start}
use Rattle.shape.specs.Form.{form, Shown, shown_in}
use Rattle.parts.specs.declared.Parts.{Parts}
use Rattle.parts.specs.declared.Cursor.{Cursor}
use Rattle.parts.specs.declared.Here.{Here}
use Rattle.parts.specs.declared.Shown.{Shown as Slices}

-- the parts of a round of value e that starts at a place; where e is 0, the share's place is the end
abbrev pub parts_at : Set → (e at : ℕ) → Parts
parts_at set e at =
    record {
      commitment = at;
      transcript = at + set.digest;
      seed1 = at + set.digest + transcript_length set;
      seed2 = at + set.digest + transcript_length set + seed_width set;
      share = at + round_least set;
      next = at + sizes (round_fields set e);
    }

-- the parts stand one after the other, within the signature
pub record Ordered (q : Parts) (n : ℕ) : Type 0 where
  pub commitment : q.commitment ≤ q.transcript
  pub transcript : q.transcript ≤ q.seed1
  pub seed1 : q.seed1 ≤ q.seed2
  pub seed2 : q.seed2 ≤ q.share
  pub share : q.share ≤ q.next
  pub next : q.next ≤ n

-- a cursor stands where its round starts
abbrev pub Stands : Set → Bytes → Cursor → Type 0
Stands set s c = c.at ≡ round_start set (values set s) c.round

-- what is found at round k: its value, its parts from place to place as the unpacked form shows them, and the next cursor
pub record Located (set : Set) (s : Bytes) (k : ℕ) (r : Here) : Type 0 where
  pub value : r.value ≡ get_or (values set s) k 0
  pub placed : r.parts ≡ parts_at set r.value (round_start set (values set s) k)
  pub ordered : Ordered r.parts (length s)
  pub commitment : part s r.parts.commitment (r.parts.transcript - r.parts.commitment) ≡ (shown_in set (form set s) k).commitment
  pub transcript : part s r.parts.transcript (r.parts.seed1 - r.parts.transcript) ≡ (shown_in set (form set s) k).transcript
  pub seed1 : part s r.parts.seed1 (r.parts.seed2 - r.parts.seed1) ≡ (shown_in set (form set s) k).seed1
  pub seed2 : part s r.parts.seed2 (r.parts.share - r.parts.seed2) ≡ (shown_in set (form set s) k).seed2
  pub share : (r.value ≡ 0 → ⊥) → part s r.parts.share (r.parts.next - r.parts.share) ≡ (shown_in set (form set s) k).share
  pub none : r.value ≡ 0 → (shown_in set (form set s) k).share ≡ replicate (w set) 0
  pub round : r.next.round ≡ k + 1
  pub stands : Stands set s r.next

-- what is shown of a round, from its parts
abbrev pub showing : (commitment transcript seed1 seed2 share : Bytes) → Shown
showing commitment transcript seed1 seed2 share =
    record {
      commitment = commitment;
      transcript = transcript;
      seed1 = seed1;
      seed2 = seed2;
      share = share;
    }

-- what parts that are lent show
abbrev pub shown_by : Slices → Shown
shown_by x = showing x.commitment.now x.transcript.now x.seed1.now x.seed2.now x.share.now
