-- The table of the powers of the inverse of a root.
-- Assumes nothing.
use Rattle.std.specs.Prelude.{◌≡◌, List, ℕ, length}
use Rattle.maths.specs.Root.{Root, power_table}

-- where old is the table of the powers of a root, new is that of its inverse
pub record InvertedTable (old new : List ℕ) : Type 0 where
  pub table : (q w v e : ℕ) → Root q (length old) w v e → old ≡ power_table q w (length old) → new ≡ power_table q v (length old)
