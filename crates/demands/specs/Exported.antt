-- Demand 1, from the promises to the functions of `picnic`: each of the nine asks nothing of its caller, and what it ensures is the
-- promise of its call. The function that C calls is one line over it, in `picnic_c`, whose proofs/Promised.antt says the same of it. `Pre` and `Post` are a function's `requires` and `ensures` as the prover reads them: a has the arguments in
-- their order, r is the answer, and s has the arguments again as they are at the end.
use Rattle.hashing.specs.HashCall.{HashPromise}
use Rattle.hashing.specs.SeedsCall.{SeedsPromise}
use Rattle.lowmc.specs.Calls.{EncryptPromise, PublicKeyPromise}
use Rattle.challenge.specs.ChallengeCall.{ChallengePromise}
use Rattle.shape.specs.Reading.{ReadPromise, WritePromise}
use Rattle.signer.specs.Sign.{Signed}
use Rattle.verifier.specs.Verify.{Verified}
use Rattle.picnic.proofs.picnic_hash.Reads as hash
use Rattle.picnic.proofs.picnic_seeds.Reads as seeds
use Rattle.picnic.proofs.picnic_encrypt.Reads as encrypt
use Rattle.picnic.proofs.picnic_public_key.Reads as public_key
use Rattle.picnic.proofs.picnic_challenge.Reads as challenge
use Rattle.picnic.proofs.picnic_read.Reads as read
use Rattle.picnic.proofs.picnic_write.Reads as write
use Rattle.picnic.proofs.picnic_sign.Reads as sign
use Rattle.picnic.proofs.picnic_verify.Reads as verify

-- whatever the arguments are, nothing more is asked
pub record EveryCallAsksNothing : Type 1 where
  pub hash : (κs : _) (a : _) → hash.Pre κs a
  pub seeds : (κs : _) (a : _) → seeds.Pre κs a
  pub encrypt : (κs : _) (a : _) → encrypt.Pre κs a
  pub public_key : (κs : _) (a : _) → public_key.Pre κs a
  pub challenge : (κs : _) (a : _) → challenge.Pre κs a
  pub read : (κs : _) (a : _) → read.Pre κs a
  pub write : (κs : _) (a : _) → write.Pre κs a
  pub sign : (κs : _) (a : _) → sign.Pre κs a
  pub verify : (κs : _) (a : _) → verify.Pre κs a

-- what is ensured is the promise
pub record EveryCallPromises : Type 1 where
  pub hash : (κs : _) (a : _) (r : _) (s : _) → hash.Post κs a r s
      → HashPromise a.0 a.1.0.now a.1.1.0.now r s.1.1.0.now
  pub seeds : (κs : _) (a : _) (r : _) (s : _) → seeds.Post κs a r s
      → SeedsPromise a.0 a.1.0.now a.1.1.0.now a.1.1.1.0.now a.1.1.1.1.0.now r s.1.1.1.1.0.now
  pub encrypt : (κs : _) (a : _) (r : _) (s : _) → encrypt.Post κs a r s
      → EncryptPromise a.0 a.1.0.now a.1.1.0.now a.1.1.1.0.now a.1.1.1.1.0.now a.1.1.1.1.1.0.now a.1.1.1.1.1.1.0.now r s.1.1.1.1.1.1.0.now
  pub public_key : (κs : _) (a : _) (r : _) (s : _) → public_key.Post κs a r s
      → PublicKeyPromise a.0 a.1.0.now a.1.1.0.now a.1.1.1.0.now a.1.1.1.1.0.now a.1.1.1.1.1.0.now a.1.1.1.1.1.1.0.now r s.1.1.1.1.1.1.0.now
  pub challenge : (κs : _) (a : _) (r : _) (s : _) → challenge.Post κs a r s
      → ChallengePromise a.0 a.1.0.now a.1.1.0 a.1.1.1.0.now r s.1.1.1.0.now
  pub read : (κs : _) (a : _) (r : _) (s : _) → read.Post κs a r s
      → ReadPromise a.0 a.1.0.now a.1.1.0.now r s.1.1.0.now
  pub write : (κs : _) (a : _) (r : _) (s : _) → write.Post κs a r s
      → WritePromise a.0 a.1.0.now a.1.1.0.now r s.1.1.0.now
  pub sign : (κs : _) (a : _) (r : _) (s : _) → sign.Post κs a r s
      → Signed
      (record {
        set_number = a.0;
        keys = a.1.0.now;
        layers = a.1.1.0.now;
        constants = a.1.1.1.0.now;
        secret = a.1.1.1.1.0.now;
        public = a.1.1.1.1.1.0.now;
        message = a.1.1.1.1.1.1.0.now;
        limit = a.1.1.1.1.1.1.1.0;
        seeds = a.1.1.1.1.1.1.1.1.0.now;
        room = a.1.1.1.1.1.1.1.1.1.0.now;
        output = a.1.1.1.1.1.1.1.1.1.1.0.now;
      })
      r s.1.1.1.1.1.1.1.1.1.0.now s.1.1.1.1.1.1.1.1.1.1.0.now
  pub verify : (κs : _) (a : _) (r : _) (s : _) → verify.Post κs a r s
      → Verified
      (record {
        set_number = a.0;
        keys = a.1.0.now;
        layers = a.1.1.0.now;
        constants = a.1.1.1.0.now;
        public = a.1.1.1.1.0.now;
        message = a.1.1.1.1.1.0.now;
        limit = a.1.1.1.1.1.1.0;
        room = a.1.1.1.1.1.1.1.0.now;
        signature = a.1.1.1.1.1.1.1.1.0.now;
      })
      r s.1.1.1.1.1.1.1.0.now
