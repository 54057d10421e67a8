-- What the block limit does to the outcome of the challenge call.
use mathlib.Core.Path.{◌≡◌, refl, sym, ap, ◌∙◌}
use mathlib.Core.Logic.{◌⊎◌, inl, inr, ⊎_elim}
use mathlib.Core.Bool.{Bool, true, false}
use Prim.Native.Nat.{ℕ, ◌≤◌, ◌<◌}
use native.Mathlib.Omega.{arith}
use lib.Dec.{eqb, ltb}
use lib.ListN.{length}
use borrow.Author.Tests.{lt-ltb, le-ltb, ne_eqb, eqb-false}
use Rattle.std.proofs.Common.{Option, Some, None}
use Rattle.sets.specs.declared.Set.{Set}
use Rattle.slices.specs.Slices.{Bytes, joined}
use Rattle.sets.specs.Sets.{numbered, l1, is_l1}
use Rattle.bits.proofs.NumberLaws.{below}
use Rattle.answers.specs.Conditions.{limit_out}
use Rattle.answers.specs.declared.Refusal.TheVariants.{Blocks}
use Rattle.answers.specs.Outcome.{refused, gives}
use Rattle.answers.proofs.ConditionsLaws.{neither}
use Rattle.hashing.specs.Hashing.{h}
use Rattle.hashing.proofs.HashingLaws.{length-h}
use Rattle.challenge.specs.Blocks.{chain, stream, stream_values, too_few}
use Rattle.challenge.specs.ChallengeCall.{challenged}
use Rattle.challenge.specs.Limits.{OneBlockIsTooFew, LimitSettlesBlocks, LargerLimitGivesSame}
use Rattle.challenge.proofs.PairsLaws.{values-most}
use Rattle.challenge.proofs.BlocksLaws.{enough_after, first_after}
use Rattle.challenge.proofs.ChallengeCallLaws.{challenged_no_set, challenged-limit, challenged-room, challenged-few, challenged-given}

-- ---- one block

pub one-few : (input : Bytes) → too_few l1 (h l1 1 input) 1 ≡ true
unfolding too_few stream_values stream joined chain
one-few input =
    let b = h l1 1 input in
    lt-ltb (length (stream_values l1 b 1)) 219 (omega (arith, values-most (stream l1 b 1), length-h is_l1 1 input))

pub one_block_is_too_few : OneBlockIsTooFew
unfolding OneBlockIsTooFew limit_out
one_block_is_too_few input output n = challenged-few (numbered 1) input 1 output l1 refl refl n (one-few input)

-- ---- a larger limit

-- a legal limit that is no smaller
pub larger_legal : (limit larger : ℕ) → limit_out limit ≡ false → limit ≤ larger → larger ≤ 64 → limit_out larger ≡ false
unfolding limit_out
larger_legal limit larger e n m =
    let some = (neither (eqb limit 0) (ltb 64 limit) e).0 in
    rw (ne_eqb larger 0 (λ z. eqb-false limit 0 some (omega arith)), le-ltb 64 larger m)

pub limit_settles_blocks : LimitSettlesBlocks
unfolding LimitSettlesBlocks
limit_settles_blocks None input limit larger output o n m =
    inr (challenged_no_set None input larger output refl ∙ sym (challenged_no_set None input limit output refl))
limit_settles_blocks (Some p) input limit larger output o n m =
    ⊎_elim
    (λ (s : output < p.t).
    inr (challenged-room (Some p) input larger output p refl o' s ∙ sym (challenged-room (Some p) input limit output p refl o s)))
    (λ (s : p.t ≤ output). settled s (too_few p (h p 1 input) limit) refl)
    (below output p.t)
  where
    o' : limit_out larger ≡ false
    o' = larger_legal limit larger o n m

    settled : p.t ≤ output → (few : Bool) → too_few p (h p 1 input) limit ≡ few
        → (challenged (Some p) input limit output ≡ refused Blocks) ⊎ (challenged (Some p) input larger output ≡ challenged (Some p) input limit output)
    settled s true f = inl (challenged-few (Some p) input limit output p refl o s f)
    settled s false f =
        inr
        (challenged-given (Some p) input larger output p refl o' s (enough_after p (h p 1 input) limit f larger n)
        ∙ (ap gives (first_after p (h p 1 input) limit f larger n) ∙ sym (challenged-given (Some p) input limit output p refl o s f)))

legal-given : (c : Option Set) (input : Bytes) (limit output : ℕ) (vs : Bytes) → challenged c input limit output ≡ gives vs → (out : Bool)
    → limit_out limit ≡ out → out ≡ false
legal-given c input limit output vs g false o = refl
legal-given None input limit output vs g true o =
    absurd (let z : ◌≡◌ {A = ℕ} 0 1 = cc (challenged_no_set None input limit output refl) in omega arith)
legal-given (Some p) input limit output vs g true o =
    absurd (let z : ◌≡◌ {A = ℕ} 0 1 = cc (challenged-limit (Some p) input limit output p refl o) in omega arith)

pub larger_limit-gives_same : LargerLimitGivesSame
unfolding LargerLimitGivesSame LimitSettlesBlocks
larger_limit-gives_same c input limit larger output vs g n m =
    ⊎_elim
    (λ (e : challenged c input limit output ≡ refused Blocks). absurd (let z : ◌≡◌ {A = ℕ} 0 1 = cc in omega arith))
    (λ (e : challenged c input larger output ≡ challenged c input limit output). e ∙ g)
    (limit_settles_blocks c input limit larger output (legal-given c input limit output vs g (limit_out limit) refl) n m)
