-- The sum of a column, one row a turn.
-- Assumes nothing.
use mathlib.Core.Path.{◌≡◌, refl}
use mathlib.Core.List.{List}
use Prim.Native.Nat.{ℕ, ◌+◌, ◌*◌, ◌^◌, ◌≤◌, ◌<◌}
use native.Mathlib.Numerals.{add-one}
use native.Mathlib.Omega.{arith}
use lib.Arith.{digits_lt}
use Rattle.maths.specs.Vector.{at, AllBelow}
use Rattle.maths.specs.Sum as sums
use Rattle.maths.specs.Sum.{sum}

-- s is the sum of the first n rows of column c
pub record Totalled (δ : ℕ) (x : List ℕ) (c n s : ℕ) : Type 0 where
  pub within : n ≤ δ
  pub total : s ≡ sum n (λ i. at x (i * 256 + c))
  pub small : s ≤ n * 2 ^ 25

module _ {δ c : ℕ} {x : List ℕ} where
  -- before the first row
  pub totalled_none : Totalled δ x c 0 0
  unfolding sums.sum
  totalled_none = record { within = omega arith; total = refl; small = omega arith }

  module _ {n s : ℕ} (t : Totalled δ x c n s) (h : n < δ) (column : c < 256) (below : AllBelow (2 ^ 25) (δ * 256) x) where
    -- the number of the next row
    pub next_below : at x (n * 256 + c) < 2 ^ 25
    next_below = below.each (n * 256 + c) (digits_lt h column)

    -- one row more
    pub totalled_more : Totalled δ x c (n + 1) (s + at x (n * 256 + c))
    unfolding sums.sum
    totalled_more =
        record {
          within = omega arith;
          total = rw (add-one, t.total) refl;
          small = omega (arith, t.small, next_below);
        }

  -- after the last row
  pub totalled_all : {n s : ℕ} → Totalled δ x c n s → δ ≤ n → s ≡ sum δ (λ i. at x (i * 256 + c))
  totalled_all {n} t h = let all : n ≡ δ = omega (arith, t.within) in rw all at t.total
