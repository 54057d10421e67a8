-- Each function of `picnic` asks nothing, and what it ensures is the promise of its call.
use Rattle.picnic.proofs.Promised.{hash_promised, seeds_promised, encrypt_promised, public_key_promised, challenge_promised}
use Rattle.picnic.proofs.Promised.{read_promised, write_promised, sign_promised, verify_promised}
use Rattle.picnic.proofs.Promised.{hash_asks, seeds_asks, encrypt_asks, public_key_asks, challenge_asks, read_asks, write_asks, sign_asks, verify_asks}
use Rattle.demands.specs.Exported.{EveryCallAsksNothing, EveryCallPromises}

pub every_call_asks_nothing : EveryCallAsksNothing
every_call_asks_nothing =
    record {
      hash = hash_asks;
      seeds = seeds_asks;
      encrypt = encrypt_asks;
      public_key = public_key_asks;
      challenge = challenge_asks;
      read = read_asks;
      write = write_asks;
      sign = sign_asks;
      verify = verify_asks;
    }

pub every_call_promises : EveryCallPromises
every_call_promises =
    record {
      hash = hash_promised;
      seeds = seeds_promised;
      encrypt = encrypt_promised;
      public_key = public_key_promised;
      challenge = challenge_promised;
      read = read_promised;
      write = write_promised;
      sign = sign_promised;
      verify = verify_promised;
    }
