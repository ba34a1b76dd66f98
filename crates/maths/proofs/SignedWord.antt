-- Whole numbers with a sign as a word of 64 bits holds them: those that fit are given back as they are.
-- Assumes nothing.
use mathlib.Core.Path.{◌≡◌, ◌∙◌}
use mathlib.Core.Bool.{Bool}
use Prim.Native.Nat.{ℕ, ◌^◌, ◌<◌}
use native.Mathlib.Omega.{arith}
use lib.IntN.{ℤ, pos, negsuc, ◌-ℤ◌, neg_ℤ, nat_abs, +ℤ_idl}
use lib.Signed.{mag, lt_z}
use mir.Syntax.{w64}
use mir.Val.{SFits, hbits, to_z, of_z}
use mir.Facts.{to_z_pos, to_z-of_z}
use Rattle.maths.proofs.Integer.{nat_abs_neg_ℤ}

-- the number that a word gives back
abbrev pub stored : ℤ → ℤ
stored z = to_z w64 (of_z w64 z)

-- a number that fits is given back as it is
pub number_kept : (z : ℤ) → SFits w64 z → stored z ≡ z
number_kept z fits = to_z-of_z fits

-- so is an entry of a slice
pub entry_kept : (z : ℤ) → mag z < 2 ^ hbits w64 → stored z ≡ z
entry_kept z h = to_z-of_z {w = w64} (record { sfits = h })

-- what a test found of the word holds of the number
pub stored_sign : (z : ℤ) → SFits w64 z → {b : Bool} → lt_z (stored z) (pos 0) ≡ b → lt_z z (pos 0) ≡ b
stored_sign z fits t = rw (to_z-of_z fits) at t

-- a number of small size fits
pub small_fits : {z : ℤ} → nat_abs z < 2 ^ 63 → SFits w64 z
small_fits {z = pos n} h = record { sfits = h }
small_fits {z = negsuc n} h = record { sfits = omega arith }

module _ (n : ℕ) (h : n < 2 ^ 32) where
  -- a natural number as a word gives it back
  pub natural_is : to_z w64 n ≡ pos n
  natural_is = to_z_pos w64 {n = n} (omega arith)

  opposite : pos 0 -ℤ to_z w64 n ≡ neg_ℤ (pos n)
  opposite = rw natural_is (+ℤ_idl (neg_ℤ (pos n)))

  -- and its opposite
  pub opposite_fits : SFits w64 (pos 0 -ℤ to_z w64 n)
  opposite_fits = rw opposite (small_fits (rw nat_abs_neg_ℤ (omega arith)))

  pub opposite_is : stored (pos 0 -ℤ to_z w64 n) ≡ neg_ℤ (pos n)
  opposite_is = to_z-of_z opposite_fits ∙ opposite
