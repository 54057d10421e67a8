-- Facts of the three sets: seeds and shares are whole bytes, and bounds of the lengths.
use mathlib.Core.Path.{◌≡◌, refl}
use Prim.Native.Nat.{◌*◌, ◌≤◌, ◌<◌}
use lib.Dec.{lit<}
use Rattle.bits.specs.Bytes.{width}
use Rattle.sets.specs.declared.Set.{Set}
use Rattle.sets.specs.Sets.{IsSet}
use Rattle.sets.specs.Lengths.{w, seed_width, header_length, round_most, longest, unpacked_length, transcript_bits}
use Rattle.sets.proofs.Each.{each, most}

module _ {p : Set} (h : IsSet p) where
  pub seeds-whole : 8 * seed_width p ≡ p.seed
  unfolding width
  seeds-whole = each (λ (p : Set). 8 * seed_width p ≡ p.seed) refl refl refl h

  pub shares_whole : 8 * w p ≡ p.n
  unfolding width
  shares_whole = each (λ (p : Set). 8 * w p ≡ p.n) refl refl refl h

  pub t≤ : p.t ≤ 438
  t≤ = most (λ (p : Set). p.t) 438 tt tt tt h

  pub digest≤ : p.digest ≤ 64
  digest≤ = most (λ (p : Set). p.digest) 64 tt tt tt h

  pub transcript_bits≤ : transcript_bits p ≤ 1140
  transcript_bits≤ = most transcript_bits 1140 tt tt tt h

  pub some-gates : 0 < transcript_bits p
  some-gates = each (λ (p : Set). 0 < transcript_bits p) (lit< tt) (lit< tt) (lit< tt) h

  pub some-rounds : 0 < p.t
  some-rounds = each (λ (p : Set). 0 < p.t) (lit< tt) (lit< tt) (lit< tt) h

  pub header_length≤ : header_length p ≤ 110
  unfolding width
  header_length≤ = most header_length 110 tt tt tt h

  pub round_most≤ : round_most p ≤ 303
  unfolding width
  round_most≤ = most round_most 303 tt tt tt h

  pub longest≤ : longest p ≤ 132856
  unfolding width
  longest≤ = most longest 132856 tt tt tt h

  pub unpacked≤ : unpacked_length p ≤ 133184
  unfolding width
  unpacked≤ = most unpacked_length 133184 tt tt tt h
