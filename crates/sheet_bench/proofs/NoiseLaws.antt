-- The noise of set 0 as two products, and what a word of 32 bits holds of them (01, Noise).
-- Assumes nothing.
use mathlib.Core.Path.{◌≡◌, refl, sym, ap, ap₂, ◌∙◌}
use mathlib.Core.List.{List, [], ◌∷◌}
use Prim.Native.Nat.{ℕ, zero, suc, ◌+◌, ◌≤◌, ◌<◌}
use native.Mathlib.Omega.{arith}
use lib.IntN.{ℤ, pos, negsuc, ◌+ℤ◌, ◌*ℤ◌, nat_abs, +ℤ_idl, +ℤ_idr, zero-*ℤ}
use lib.ListN.{length, get_or, set}
use mir.Syntax.{w32, w64}
use mir.Val.{SFits, of_z, to_z}
use mir.ValLaws.{to_z-of_z}
use Rattle.maths.specs.Integer.{sum_ℤ, product_ℤ}
use Rattle.maths.proofs.Integer.{nat_abs-+ℤ}
use Rattle.maths.proofs.Size.{nat_abs-*ℤ_most}
use Rattle.calls.specs.Region.{region}
use Rattle.sets.specs.Table.{none, table, set_of}
use Rattle.numbers.specs.Noise.{numbers_noise}
use Rattle.sheet_bench.specs.Bench.{bench}

-- both entries of a list of two written
pub both_written : {A : Type 0} (xs : List A) (x y : A) → length xs ≡ 2 → set (set xs 0 x) 1 y ≡ x ∷ y ∷ []
both_written [] x y e = absurd (omega arith)
both_written (a ∷ []) x y e = absurd (omega arith)
both_written (a ∷ b ∷ []) x y e = refl
both_written (a ∷ b ∷ c ∷ xs) x y e = absurd (omega arith)

-- a number of small size fits a word
small_fits : {z : ℤ} → nat_abs z ≤ 4 → SFits w32 z
small_fits {z = pos n} h = record { sfits = omega arith }
small_fits {z = negsuc n} h = record { sfits = omega arith }

small_fits_double : {z : ℤ} → nat_abs z ≤ 4 → SFits w64 z
small_fits_double {z = pos n} h = record { sfits = omega arith }
small_fits_double {z = negsuc n} h = record { sfits = omega arith }

-- the product of a multiplier and an error
product_small : (x y : ℤ) → nat_abs x ≤ 2 → nat_abs y ≤ 1 → nat_abs (x *ℤ y) ≤ 2
product_small x y h k = nat_abs-*ℤ_most x y 2 1 h k

-- the products at a place of the noise
noise_entries : (a b c x y : ℤ) (j : ℕ) → j < 2
    → x *ℤ get_or (a ∷ b ∷ c ∷ []) (j + 1) (pos 0) +ℤ y *ℤ get_or (a ∷ b ∷ c ∷ []) j (pos 0) ≡ numbers_noise bench (a ∷ b ∷ c ∷ []) (x ∷ y ∷ []) j
unfolding numbers_noise product_ℤ sum_ℤ region none table set_of
noise_entries a b c x y zero h = sym (+ℤ_idl _ ∙ ap (λ (z : ℤ). z +ℤ y *ℤ a) (+ℤ_idl (x *ℤ b)))
noise_entries a b c x y (suc zero) h = sym (+ℤ_idl _ ∙ ap₂ ◌+ℤ◌ (ap (λ (z : ℤ). z +ℤ y *ℤ b) (+ℤ_idl (x *ℤ c))) (zero-*ℤ a) ∙ +ℤ_idr _)
noise_entries a b c x y (suc (suc j)) h = absurd (omega arith)

noise_multipliers : (a b c : ℤ) (r : List ℤ) (j : ℕ) → length r ≡ 2 → j < 2
    → get_or r 0 (pos 0) *ℤ get_or (a ∷ b ∷ c ∷ []) (j + 1) (pos 0) +ℤ get_or r 1 (pos 0) *ℤ get_or (a ∷ b ∷ c ∷ []) j (pos 0) ≡ numbers_noise bench
    (a ∷ b ∷ c ∷ []) r j
noise_multipliers a b c [] j e h = absurd (omega arith)
noise_multipliers a b c (x ∷ []) j e h = absurd (omega arith)
noise_multipliers a b c (x ∷ y ∷ []) j e h = noise_entries a b c x y j h
noise_multipliers a b c (x ∷ y ∷ z ∷ r) j e h = absurd (omega arith)

pub noise_two : (e r : List ℤ) (j : ℕ) → length e ≡ 3 → length r ≡ 2 → j < 2
    → get_or r 0 (pos 0) *ℤ get_or e (j + 1) (pos 0) +ℤ get_or r 1 (pos 0) *ℤ get_or e j (pos 0) ≡ numbers_noise bench e r j
noise_two [] r j three two h = absurd (omega arith)
noise_two (a ∷ []) r j three two h = absurd (omega arith)
noise_two (a ∷ b ∷ []) r j three two h = absurd (omega arith)
noise_two (a ∷ b ∷ c ∷ []) r j three two h = noise_multipliers a b c r j two h
noise_two (a ∷ b ∷ c ∷ d ∷ e) r j three two h = absurd (omega arith)

-- what the words of the code hold of two products
module _ (x y u v : ℤ) (fits-x : SFits w32 x) (fits-y : SFits w32 y) (fits-u : SFits w32 u) (fits-v : SFits w32 v)
    (small-x : nat_abs x ≤ 2) (small-y : nat_abs y ≤ 1) (small-u : nat_abs u ≤ 2) (small-v : nat_abs v ≤ 1) where
  first_is : to_z w32 (of_z w32 x) *ℤ to_z w32 (of_z w32 y) ≡ x *ℤ y
  first_is = ap₂ ◌*ℤ◌ (to_z-of_z w32 x fits-x) (to_z-of_z w32 y fits-y)

  second_is : to_z w32 (of_z w32 u) *ℤ to_z w32 (of_z w32 v) ≡ u *ℤ v
  second_is = ap₂ ◌*ℤ◌ (to_z-of_z w32 u fits-u) (to_z-of_z w32 v fits-v)

  pub first_fits : SFits w32 (to_z w32 (of_z w32 x) *ℤ to_z w32 (of_z w32 y))
  first_fits = rw first_is (small_fits (omega (arith, product_small x y small-x small-y)))

  pub second_fits : SFits w32 (to_z w32 (of_z w32 u) *ℤ to_z w32 (of_z w32 v))
  second_fits = rw second_is (small_fits (omega (arith, product_small u v small-u small-v)))

  -- the sum of the products as stored
  stored : ℤ
  stored = to_z w32 (of_z w32 (to_z w32 (of_z w32 x) *ℤ to_z w32 (of_z w32 y))) +ℤ to_z w32 (of_z w32 (to_z w32 (of_z w32 u) *ℤ to_z w32 (of_z w32 v)))

  stored_is : stored ≡ x *ℤ y +ℤ u *ℤ v
  unfolding stored
  stored_is = ap₂ ◌+ℤ◌ (to_z-of_z w32 _ first_fits ∙ first_is) (to_z-of_z w32 _ second_fits ∙ second_is)

  sum_small : nat_abs (x *ℤ y +ℤ u *ℤ v) ≤ 4
  sum_small = omega (arith, nat_abs-+ℤ (x *ℤ y) (u *ℤ v), product_small x y small-x small-y, product_small u v small-u small-v)

  pub sum_fits : SFits w32 (to_z w32 (of_z w32 (to_z w32 (of_z w32 x) *ℤ to_z w32 (of_z w32 y))) +ℤ to_z w32
      (of_z w32 (to_z w32 (of_z w32 u) *ℤ to_z w32 (of_z w32 v))))
  unfolding stored
  sum_fits = rw stored_is (small_fits sum_small)

  -- the sum as a word gives it back
  total : to_z w32 (of_z w32 (to_z w32 (of_z w32 (to_z w32 (of_z w32 x) *ℤ to_z w32 (of_z w32 y))) +ℤ to_z w32
      (of_z w32 (to_z w32 (of_z w32 u) *ℤ to_z w32 (of_z w32 v)))))
      ≡ x *ℤ y +ℤ u *ℤ v
  unfolding stored
  total = to_z-of_z w32 _ sum_fits ∙ stored_is

  pub wide_fits : SFits w64
      (to_z w32 (of_z w32 (to_z w32 (of_z w32 (to_z w32 (of_z w32 x) *ℤ to_z w32 (of_z w32 y))) +ℤ to_z w32
      (of_z w32 (to_z w32 (of_z w32 u) *ℤ to_z w32 (of_z w32 v))))))
  wide_fits = rw total (small_fits_double sum_small)

  pub wide_is : to_z w64
      (of_z w64 (to_z w32 (of_z w32
      (to_z w32 (of_z w32 (to_z w32 (of_z w32 x) *ℤ to_z w32 (of_z w32 y))) +ℤ to_z w32 (of_z w32 (to_z w32 (of_z w32 u) *ℤ to_z w32 (of_z w32 v))))))) ≡ x *ℤ
      y +ℤ u *ℤ v
  wide_is = to_z-of_z w64 _ wide_fits ∙ total
