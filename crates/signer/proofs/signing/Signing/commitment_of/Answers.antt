-- `signer::signing::Signing::commitment_of` meets its contract.
use mathlib.Core.Path.{ap}
use mathlib.Core.List.{[]}
use Prim.Native.Nat.{ℕ}
use lib.ListN.{get_or}
use Rattle.bits.specs.Words.{block_bits}
use Rattle.lowmc.specs.Vectors.{at}
use Rattle.lowmc.specs.Cipher.{cipher}
use Rattle.lowmc.specs.Encrypted.{plaintext}
use Rattle.views.specs.Signed.{seed_at, salt_at}
use Rattle.signer.proofs.PlayLaws.{commitment_as}
use Rattle.signer.proofs.signing.Signing.commitment_of.Goals as goal

pub returns : goal.returns
returns c =
    let a = c.args in
    let s = a.self.now in
    let p = s.tables.set in
    λ k q.
    commitment_as p (cipher s.tables) (salt_at p s.seeds.now) a.t (seed_at p s.seeds.now a.t) s.secret.now (plaintext p s.public.now) a.x.now k c.requires.2
    (c.seed.ensures.named k q)
    (ap (λ (z : ℕ). block_bits (at a.x.now.inputs z)) q) (ap (λ (z : ℕ). get_or a.x.now.said z []) q) (ap (λ (z : ℕ). block_bits (at a.x.now.outputs z)) q) c.commit_party.ensures
