-- The bit that a set reads: 01's formula for set 0, and for sets 1 to 12 the thresholds, which are 003's Round where h is even.
-- Assumes nothing.
use mathlib.Core.Path.{◌≡◌, ◌∙◌}
use Prim.Native.Nat.{ℕ, ◌+◌, ◌*◌, ◌/◌, ◌<◌}
use borrow.Author.Tests.{eq-eqb, ne_eqb}
use Rattle.maths.specs.Rounding.{floor_bit_of, centred_bit, threshold_bit_of}
use Rattle.maths.proofs.Rounding.{centred_bit_threshold}
use Rattle.sets.specs.declared.Parameters.{Parameters}
use Rattle.sets.specs.Derived.{half_modulus_of}
use Rattle.numbers.specs.Scheme.{rounded_bit_of}

module _ (set : ℕ) (p : Parameters) (w : ℕ) where
  -- set 0
  pub rounded_bit_bench : set ≡ 0 → rounded_bit_of set p w ≡ floor_bit_of (half_modulus_of p) w
  unfolding rounded_bit_of
  rounded_bit_bench e = rw (eq-eqb set 0 e)

  -- the other sets
  pub rounded_bit_centred : (set ≡ 0 → ⊥) → rounded_bit_of set p w ≡ centred_bit (half_modulus_of p) w
  unfolding rounded_bit_of
  rounded_bit_centred e = rw (ne_eqb set 0 e)

  -- by thresholds
  pub rounded_bit_threshold : (set ≡ 0 → ⊥) → 0 < half_modulus_of p → half_modulus_of p ≡ 2 * (half_modulus_of p / 2)
      → w < 2 * half_modulus_of p + 1 → rounded_bit_of set p w ≡ threshold_bit_of (half_modulus_of p) w
  rounded_bit_threshold e some even small = rounded_bit_centred e ∙ centred_bit_threshold (half_modulus_of p) (half_modulus_of p / 2) w some even small
