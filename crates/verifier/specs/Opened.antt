-- Cited by inner contracts alone: what a round of the verifier leaves on words and in arrays, two input shares and what is
-- recomputed from them.
use Rattle.std.specs.Prelude.{◌≡◌, take}
use Rattle.slices.specs.Slices.{Bytes}
use Rattle.bits.specs.Bytes.{bits_of, width}
use Rattle.circuit.specs.Lowmc.{Cipher}
use Rattle.circuit.specs.Round.{Party, next}
use Rattle.round.specs.Engine.{RecomputedAs}
use Rattle.round.specs.Inputs.{opening_of}
use Rattle.views.specs.Opened.{opened_share}
use Rattle.verifier.specs.declared.Opened.{Opened}

-- a round opened for challenge e over two tapes, with the share and the transcript of the signature
pub record OpenedAs (L : Cipher) (e : Party) (tape1 tape2 share transcript p : Bytes) (r : Opened) : Type 0 where
  pub share1 : take (width L.n) r.share1 ≡ opened_share L e tape1 share
  pub share2 : take (width L.n) r.share2 ≡ opened_share L (next e) tape2 share
  pub again : RecomputedAs L (bits_of p) e
      (opening_of L e (bits_of (opened_share L e tape1 share)) (bits_of (opened_share L (next e) tape2 share)) tape1 tape2 transcript) r.again
