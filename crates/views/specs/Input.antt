-- The challenge's input: all output shares by round and party, then all commitments, pk, salt, M: the order that a partner's
-- program decides (M-101; docs/DECISIONS.md), where 01 has salt, pk, M.
use Rattle.std.specs.Prelude.{◌++◌, ℕ, get_or}
use Rattle.slices.specs.Slices.{Bytes, joined}
use Rattle.sets.specs.declared.Set.{Set}
use Rattle.circuit.specs.Lowmc.{Cipher}
use Rattle.circuit.specs.Round.{Party}
use Rattle.lowmc.specs.Encrypted.{ciphertext, plaintext}
use Rattle.shape.specs.Form.{values_in, salt_in, shown_in}
use Rattle.views.specs.Parties.{party_of, three}
use Rattle.views.specs.Signed.{seed_at, salt_at, tapes, outputs, commitments}
use Rattle.views.specs.Opened.{recomputed_outputs, recomputed_commitments}

-- a thing of each party in each of T rounds, by round and party
unfoldable pub by_round : ℕ → (ℕ → Party → Bytes) → Bytes
by_round rounds f = joined rounds (λ t. three (f t))

-- all output shares by round and party, then all commitments: what the room holds
unfoldable pub filling : Set → (outputs commitments : ℕ → Party → Bytes) → Bytes
filling set outputs commitments = by_round set.t outputs ++ by_round set.t commitments

-- then pk, salt, M
unfoldable pub challenge_input : (filled salt public message : Bytes) → Bytes
challenge_input filled salt public message = filled ++ (public ++ (salt ++ message))

-- what the signer has, from a secret key, a public key and seeds
module _ (set : Set) (L : Cipher) (secret public seeds : Bytes) where
  abbrev pub signed_outputs : ℕ → Party → Bytes
  signed_outputs t = outputs L secret (tapes set L (salt_at set seeds) t (seed_at set seeds t)) (plaintext set public)

  abbrev pub signed_commitments : ℕ → Party → Bytes
  signed_commitments t = commitments set L (salt_at set seeds) t (seed_at set seeds t) secret (plaintext set public)

  unfoldable pub signer_filling : Bytes
  signer_filling = filling set signed_outputs signed_commitments

-- what the verifier recomputes, from a public key and an unpacked form x
module _ (set : Set) (L : Cipher) (public x : Bytes) where
  -- the party that the value of round t names
  abbrev pub opened_at : ℕ → Party
  opened_at t = party_of (get_or (values_in set x) t 0)

  abbrev pub opened_outputs : ℕ → Party → Bytes
  opened_outputs t = recomputed_outputs set L (salt_in set x) t (opened_at t) (shown_in set x t) (plaintext set public) (ciphertext set public)

  abbrev pub opened_commitments : ℕ → Party → Bytes
  opened_commitments t = recomputed_commitments set L (salt_in set x) t (opened_at t) (shown_in set x t) (plaintext set public) (ciphertext set public)

  unfoldable pub verifier_filling : Bytes
  verifier_filling = filling set opened_outputs opened_commitments
