-- Whole numbers with a sign in a word of 64 bits: sums, products and centred residues that fit.
-- Assumes nothing.
use mathlib.Core.Path.{◌≡◌, ap₂, ◌∙◌}
use Prim.Native.Nat.{ℕ, ◌+◌, ◌*◌, ◌^◌, ◌≤◌, ◌<◌}
use native.Mathlib.Nat.{mul-le-mul_left}
use native.Mathlib.Omega.{arith}
use lib.IntN.{ℤ, ◌+ℤ◌, ◌*ℤ◌, nat_abs}
use mir.Syntax.{w64}
use mir.Val.{SFits}
use mir.Facts.{to_z-of_z}
use Rattle.maths.specs.Integer.{centre}
use Rattle.maths.proofs.Integer.{nat_abs-+ℤ, nat_abs-*ℤ, nat_abs_centre}
use Rattle.maths.proofs.SignedWord.{stored, small_fits}

module _ (x y : ℤ) (fx : SFits w64 x) (fy : SFits w64 y) where
  -- the sum of two such numbers
  pub sum_fits : nat_abs x < 2 ^ 61 → nat_abs y < 2 ^ 61 → SFits w64 (stored x +ℤ stored y)
  sum_fits h k = rw (to_z-of_z fx, to_z-of_z fy) (small_fits (omega (arith, nat_abs-+ℤ x y)))

  pub sum_is : nat_abs x < 2 ^ 61 → nat_abs y < 2 ^ 61 → stored (stored x +ℤ stored y) ≡ x +ℤ y
  sum_is h k = to_z-of_z (sum_fits h k) ∙ ap₂ ◌+ℤ◌ (to_z-of_z fx) (to_z-of_z fy)

  -- the product of two numbers of half the length
  pub product_fits : nat_abs x < 2 ^ 23 → nat_abs y < 2 ^ 23 → SFits w64 (stored x *ℤ stored y)
  product_fits h k =
      let most : nat_abs x * nat_abs y ≤ nat_abs x * 8388608 = mul-le-mul_left (nat_abs x) (omega arith) in
      rw (to_z-of_z fx, to_z-of_z fy) (small_fits (rw nat_abs-*ℤ (omega arith)))

  pub product_is : nat_abs x < 2 ^ 23 → nat_abs y < 2 ^ 23 → stored (stored x *ℤ stored y) ≡ x *ℤ y
  product_is h k = to_z-of_z (product_fits h k) ∙ ap₂ ◌*ℤ◌ (to_z-of_z fx) (to_z-of_z fy)

-- a centred residue is small
pub centred_small : (half w : ℕ) (z : ℤ) → SFits w64 z → z ≡ centre half w → w < 2 * half + 1 → half < 2 ^ 23 → nat_abs (stored z) < 2 ^ 23
centred_small half w z fits e l h = rw (to_z-of_z fits, e) (omega (arith, nat_abs_centre half w l))
