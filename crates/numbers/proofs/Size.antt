-- The size of a whole number that a word of 32 bits holds, by two comparisons with a limit and its negation.
-- Assumes nothing.
use mathlib.Core.Path.{◌≡◌, refl, ap, ◌∙◌}
use mathlib.Core.Bool.{Bool, true, false}
use Prim.Native.Nat.{ℕ, zero, suc, ◌^◌, ◌<◌}
use native.Mathlib.Omega.{arith}
use borrow.Author.Tests.{lt-ltb, le-leb, lt-leb, ltb-true, ltb-false}
use lib.Dec.{leb}
use lib.IntN.{ℤ, pos, negsuc, ◌-ℤ◌, neg_ℤ, nat_abs}
use lib.Signed.{mag, lt_z}
use mir.Syntax.{w32}
use mir.Val.{SFits, hbits, of_z, to_z}
use mir.ValLaws.{to_z-of_z, to_z_pos}

-- an entry of a slice is given back as it is
pub entry_kept : (z : ℤ) → mag z < 2 ^ hbits w32 → to_z w32 (of_z w32 z) ≡ z
entry_kept z h = to_z-of_z w32 z (record { sfits = h })

-- a test is not both true and false
true_false : {A : Type 0} {t : Bool} → t ≡ true → t ≡ false → A
true_false a b = let z : ◌≡◌ {A = ℕ} 0 1 = cc in absurd (omega arith)

-- 0 − n
opposite : (n : ℕ) → pos 0 -ℤ pos n ≡ neg_ℤ (pos n)
opposite zero = refl
opposite (suc n) = rw (lt-ltb 0 (suc n) (omega arith)) (ap negsuc (omega arith))

-- it fits a word where n is small
opposite_fits : (n : ℕ) → n < 2 ^ 24 → SFits w32 (neg_ℤ (pos n))
opposite_fits zero h = record { sfits = omega arith }
opposite_fits (suc n) h = record { sfits = omega arith }

-- a number above n, and one below −n, is larger than n in size
above_size : (z : ℤ) (n : ℕ) → lt_z (pos n) z ≡ true → leb (nat_abs z) n ≡ false
above_size (pos m) n t = lt-leb m n (ltb-true n m t)
above_size (negsuc m) n t = true_false t refl

beneath_size : (z : ℤ) (n : ℕ) → lt_z z (neg_ℤ (pos n)) ≡ true → leb (nat_abs z) n ≡ false
beneath_size (pos m) zero t = absurd (omega (arith, ltb-true m 0 t))
beneath_size (pos m) (suc n) t = true_false t refl
beneath_size (negsuc m) zero t = lt-leb (suc m) 0 (omega arith)
beneath_size (negsuc m) (suc n) t = lt-leb (suc m) (suc n) (omega (arith, ltb-true n m t))

-- any other is not
between_size : (z : ℤ) (n : ℕ) → lt_z (pos n) z ≡ false → lt_z z (neg_ℤ (pos n)) ≡ false → leb (nat_abs z) n ≡ true
between_size (pos m) n t u = le-leb m n (ltb-false n m t)
between_size (negsuc m) zero t u = true_false refl u
between_size (negsuc m) (suc n) t u = le-leb (suc m) (suc n) (omega (arith, ltb-false n m u))

-- the same of what a word gives back
module _ (z : ℤ) (n : ℕ) (fits : SFits w32 z) (small : n < 2 ^ 24) where
  -- the limit
  limit : to_z w32 n ≡ pos n
  limit = to_z_pos w32 n (omega arith)

  -- its negation fits a word
  pub negated_fits : SFits w32 (pos 0 -ℤ to_z w32 n)
  negated_fits = rw (limit, opposite n) (opposite_fits n small)

  -- and is given back
  negated : to_z w32 (of_z w32 (pos 0 -ℤ to_z w32 n)) ≡ neg_ℤ (pos n)
  negated = to_z-of_z w32 _ negated_fits ∙ rw (limit, opposite n)

  -- a number above the limit
  pub stored_above : lt_z (to_z w32 n) (to_z w32 (of_z w32 z)) ≡ true → leb (nat_abs z) n ≡ false
  stored_above t = above_size z n (rw (limit, to_z-of_z w32 z fits) at t)

  -- a number below its negation
  pub stored_beneath : lt_z (to_z w32 (of_z w32 z)) (to_z w32 (of_z w32 (pos 0 -ℤ to_z w32 n))) ≡ true → leb (nat_abs z) n ≡ false
  stored_beneath t = beneath_size z n (rw (negated, to_z-of_z w32 z fits) at t)

  -- any other number
  pub stored_between : lt_z (to_z w32 n) (to_z w32 (of_z w32 z)) ≡ false → lt_z (to_z w32 (of_z w32 z)) (to_z w32 (of_z w32 (pos 0 -ℤ to_z w32 n))) ≡ false
      → leb (nat_abs z) n ≡ true
  stored_between t u = between_size z n (rw (limit, to_z-of_z w32 z fits) at t) (rw (negated, to_z-of_z w32 z fits) at u)
