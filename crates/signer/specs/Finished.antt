-- Cited by inner contracts alone: what the signer leaves where checks 1 to 7 pass.
use Rattle.std.specs.Prelude.{◌≡◌, cond, ℕ, length, Err}
use Rattle.slices.specs.Slices.{Bytes, over, cleared}
use Rattle.sets.specs.declared.Set.{Set}
use Rattle.sets.specs.Lengths.{room_length}
use Rattle.answers.specs.declared.Refusal.TheVariants.{Blocks}
use Rattle.answers.specs.Answers.{Fine, answer}
use Rattle.challenge.specs.Blocks.{too_few}
use Rattle.signer.specs.Sign.{Given, first_block, signature_of}

-- a signature, or 8 and the output as it was; either way the needed bytes of the room are zero
pub record Finished (set : Set) (g : Given) (back : ℕ) (room output : Bytes) : Type 0 where
  pub answered : back ≡ cond (too_few set (first_block set g) g.limit) (answer (Err Blocks) 0) (answer Fine (length (signature_of set g)))
  pub left-room : room ≡ cleared (room_length set) g.room
  pub left-output : output ≡ cond (too_few set (first_block set g) g.limit) g.output (over (signature_of set g) g.output)
