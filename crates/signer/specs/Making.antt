-- Cited by inner contracts alone: what a host handed in for a signature in the making, and what is had of each of its rounds.
use Rattle.std.specs.Prelude.{ℕ}
use Rattle.slices.specs.Slices.{Bytes}
use Rattle.circuit.specs.Round.{Party}
use Rattle.lowmc.specs.Cipher.{cipher}
use Rattle.lowmc.specs.Encrypted.{plaintext}
use Rattle.shape.specs.Form.{Shown}
use Rattle.views.specs.Signed.{seed_at, salt_at, tapes}
use Rattle.views.specs.Input.{signed_outputs, signed_commitments}
use Rattle.signer.specs.declared.Played.{Played}
use Rattle.signer.specs.declared.signing.Signing.{Signing}
use Rattle.signer.specs.Played.{PlayedAs}
use Rattle.signer.specs.Sign.{Given, shown_at}

module _ (s : Signing) (t : ℕ) where
  -- the tapes of round t
  abbrev pub round_tapes : Party → Bytes
  round_tapes = tapes s.tables.set (cipher s.tables) (salt_at s.tables.set s.seeds.now) t (seed_at s.tables.set s.seeds.now t)

  -- its output shares and commitments
  abbrev pub outputs_of : Party → Bytes
  outputs_of = signed_outputs s.tables.set (cipher s.tables) s.secret.now s.public.now s.seeds.now t

  abbrev pub commitments_of : Party → Bytes
  commitments_of = signed_commitments s.tables.set (cipher s.tables) s.secret.now s.public.now s.seeds.now t

  -- what is shown of it for the challenge value e
  abbrev pub shown_of : ℕ → Shown
  shown_of e = shown_at s.tables.set (cipher s.tables) s.secret.now s.public.now s.seeds.now t e

  -- round t was played
  abbrev pub PlayedIn : Played → Type 0
  PlayedIn x = PlayedAs (cipher s.tables) s.secret.now round_tapes (plaintext s.tables.set s.public.now) x

-- what a host handed in
abbrev pub handed_in : ℕ → Signing → (message : Bytes) → (limit : ℕ) → (room output : Bytes) → Given
handed_in set_number s message limit room output = record {
  set_number = set_number;
  keys = s.tables.keys.now;
  layers = s.tables.layers.now;
  constants = s.tables.constants.now;
  secret = s.secret.now;
  public = s.public.now;
  message = message;
  limit = limit;
  seeds = s.seeds.now;
  room = room;
  output = output;
}
