-- What the lengths of a transformed middle product keep once they are checked.
-- Assumes nothing.
use Rattle.std.specs.Prelude.{◌≡◌, ℕ, ◌+◌, ◌≤◌, ◌<◌}
use Rattle.sets.specs.declared.Parameters.{Parameters}

-- neither a nor the result is empty, b fits them and the largest transform, and so does the work slice
pub record Lengths (p : Parameters) (a b d work : ℕ) : Type 0 where
  pub some : 0 < a
  pub results : 0 < d
  pub fit : b + 1 ≡ a + d
  pub room : b ≤ p.d3
  pub whole : work ≡ p.d3
