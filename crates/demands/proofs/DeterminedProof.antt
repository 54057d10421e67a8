-- Demand 1: each promise is an equation for the answer and one for every slice that the call may write.
use Rattle.answers.specs.Outcome.{SameEnd}
use Rattle.answers.proofs.OutcomeLaws.{same}
use Rattle.signer.proofs.SignLaws.{same_signed}
use Rattle.verifier.proofs.VerifyLaws.{same_verified}
use Rattle.demands.specs.Determined.{HashIsSettled, EncryptIsSettled, PublicKeyIsSettled, SeedsIsSettled}
use Rattle.demands.specs.Determined.{ChallengeIsSettled, ReadIsSettled, WriteIsSettled, EveryCallIsSettled}

pub hash_is_settled : HashIsSettled
unfolding HashIsSettled SameEnd
hash_is_settled k input before = same _ before

pub encrypt_is_settled : EncryptIsSettled
unfolding EncryptIsSettled SameEnd
encrypt_is_settled k keys layers constants secret p before = same _ before

pub public_key_is_settled : PublicKeyIsSettled
unfolding PublicKeyIsSettled SameEnd
public_key_is_settled k keys layers constants secret p before = same _ before

pub seeds_is_settled : SeedsIsSettled
unfolding SeedsIsSettled SameEnd
seeds_is_settled k secret public message before = same _ before

pub challenge_is_settled : ChallengeIsSettled
unfolding ChallengeIsSettled SameEnd
challenge_is_settled k input limit before = same _ before

pub read_is_settled : ReadIsSettled
unfolding ReadIsSettled SameEnd
read_is_settled k signature before = same _ before

pub write_is_settled : WriteIsSettled
unfolding WriteIsSettled SameEnd
write_is_settled k unpacked before = same _ before

pub every_call_is_settled : EveryCallIsSettled
every_call_is_settled =
    record {
      hash = hash_is_settled;
      encrypt = encrypt_is_settled;
      public_key = public_key_is_settled;
      seeds = seeds_is_settled;
      challenge = challenge_is_settled;
      read = read_is_settled;
      write = write_is_settled;
      sign = same_signed;
      verify = same_verified;
    }
