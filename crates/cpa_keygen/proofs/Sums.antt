-- The sums of numbers and errors: their count, and the sum at a place.
-- Assumes nothing.
use mathlib.Core.Path.{◌≡◌}
use mathlib.Core.List.{List}
use Prim.Native.Nat.{ℕ, ◌+◌, ◌%◌, ◌<◌}
use lib.ListN.{length}
use Rattle.maths.specs.Vector.{at}
use Rattle.maths.proofs.Vector.{tabulate_length, tabulate_at}
use Rattle.cpa_keygen.specs.Held.{sums}

module _ (q : ℕ) (x e : List ℕ) where
  -- there are as many sums as errors
  pub sums_length : length (sums q x e) ≡ length e
  unfolding sums
  sums_length = tabulate_length (length e) _

  -- the sum at a place
  pub sums_at : (j : ℕ) → j < length e → at (sums q x e) j ≡ (at x j + at e j) % q
  unfolding sums
  sums_at j h = tabulate_at (length e) _ j h
