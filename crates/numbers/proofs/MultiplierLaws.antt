-- Multipliers: the bound of a position as the code computes it, the two tests of a multiplier, and an accepted check (01, Sealing).
-- Assumes nothing.
use mathlib.Core.Path.{◌≡◌}
use mathlib.Core.Bool.{true, false}
use mathlib.Core.List.{List}
use Prim.Native.Nat.{ℕ, ◌+◌, ◌*◌, ◌%◌, ◌^◌, ◌≤◌, ◌<◌}
use native.Mathlib.Nat.{one-mul, mod-eq_of_lt}
use native.Mathlib.Omega.{arith}
use borrow.Author.Tests.{le-leb, lt-leb, leb-true, leb-false}
use lib.Dec.{leb}
use lib.IntN.{ℤ, pos, nat_abs}
use lib.ListN.{length, get_or}
use lib.Pow.{pow-lt}
use Rattle.maths.proofs.Tests.{both_true}
use Rattle.calls.specs.Outcome.{Outcome, accepted}
use Rattle.calls.specs.Checks.{refuse_first}
use Rattle.calls.proofs.Checks.{refuse_first_accepted, passing_all}
use Rattle.sets.specs.declared.Parameters.{Parameters}
use Rattle.sets.specs.Rules.{Rules}
use Rattle.sets.specs.Derived.{multiplier_bits_of, multiplier_bound_of}
use Rattle.sets.proofs.Counts.{bits_most}
use Rattle.numbers.specs.Calls.{is_multiplier_of}

module _ (p : Parameters) (kept : Rules p) (position : ℕ) where
  -- a bit shifted by the bits of a size is the bound
  pub bound_shifted : 1 * 2 ^ multiplier_bits_of p position % 2 ^ 32 ≡ multiplier_bound_of p position
  unfolding multiplier_bound_of
  bound_shifted = rw one-mul (mod-eq_of_lt (pow-lt {i = multiplier_bits_of p position} {j = 32} (omega (arith, bits_most p kept position))))

  -- the bound is small
  pub bound_small : multiplier_bound_of p position < 2 ^ 24
  unfolding multiplier_bound_of
  bound_small = pow-lt {i = multiplier_bits_of p position} {j = 24} (omega (arith, bits_most p kept position))

-- 0 is no multiplier
pub multiplier_zero : (p : Parameters) (position : ℕ) (z : ℤ) → leb (nat_abs z) 0 ≡ true → false ≡ is_multiplier_of p position z
multiplier_zero p position z e = rw (lt-leb 1 (nat_abs z) (omega (arith, leb-true (nat_abs z) 0 e)))

-- another number is one where its size is within the bound
pub multiplier_within : (p : Parameters) (position : ℕ) (z : ℤ) → leb (nat_abs z) 0 ≡ false → leb (nat_abs z) (multiplier_bound_of p position)
    ≡ is_multiplier_of p position z
multiplier_within p position z e = rw (le-leb 1 (nat_abs z) (omega (arith, leb-false (nat_abs z) 0 e)))

-- an accepted check of multipliers
pub accepted_multipliers : (p : Parameters) → Rules p → (offset : ℕ) (rs : List ℤ) (after : Outcome)
    → refuse_first (is_multiplier_of p) 0 offset rs after ≡ accepted
    → ((k : ℕ) → k < length rs → nat_abs (get_or rs k (pos 0)) < 2 ^ 24) × (after ≡ accepted)
accepted_multipliers p kept offset rs after e =
    let both = refuse_first_accepted (is_multiplier_of p) 0 offset rs after e in (
      λ k h.
          let z = get_or rs k (pos 0) in
          let bound = multiplier_bound_of p (0 + k) in
          let within : nat_abs z ≤ bound = leb-true (nat_abs z) bound
          (both_true (leb 1 (nat_abs z)) (leb (nat_abs z) bound) ((passing_all (is_multiplier_of p) 0 rs (pos 0)).0 both.0 k h)).1 in
          omega (arith, bound_small p kept (0 + k)),
      both.1,
    )
