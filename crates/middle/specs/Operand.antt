-- What a factor of a product on numbers must be so that the whole sum of a place fits 64 bits (01, Arithmetic: every modulus is below 2^24).
-- Assumes nothing.
use Rattle.std.specs.Prelude.{List, ℕ, ◌^◌, ◌≤◌, length}
use Rattle.maths.specs.Vector.{Below}

-- at most 4,096 numbers below 2^24
pub record Operand (xs : List ℕ) : Type 0 where
  pub most : length xs ≤ 4096
  pub small : Below (2 ^ 24) xs
