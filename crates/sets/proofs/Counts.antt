-- Bounds on the count of errors and on the bits of a multiplier, from a set's rules.
-- Assumes nothing.
use mathlib.Core.Bool.{Bool, true, false, cond}
use Prim.Native.Nat.{ℕ, ◌+◌, ◌≤◌}
use native.Mathlib.Nat.{mul-le-mul}
use native.Mathlib.Omega.{arith}
use lib.Dec.{ltb}
use Rattle.sets.specs.declared.Parameters.{Parameters}
use Rattle.sets.specs.Rules.{Rules}
use Rattle.sets.specs.Derived.{multiplier_bits_of, error_count_of}

module _ (p : Parameters) (rules : Rules p) where
  -- ten polynomials at most, of 1,279 errors at most
  pub errors_most : error_count_of p ≤ 12790
  unfolding error_count_of
  errors_most =
      let most : p.d + p.k ≤ 1279 = omega (arith, rules.most_d, rules.most_k) in
      mul-le-mul {n₁ = p.t} {m₁ = p.d + p.k} {n₂ = 10} {m₂ = 1279} rules.most_t most

  -- a multiplier's size has at most nine bits
  pub bits_most : (position : ℕ) → multiplier_bits_of p position ≤ 9
  unfolding multiplier_bits_of
  bits_most position = go (ltb position p.ndec1)
    where
      go : (first : Bool) → cond first p.b1 p.b2 ≤ 9
      go true = omega (arith, rules.bounds, rules.most_b2)
      go false = omega (arith, rules.most_b2)
