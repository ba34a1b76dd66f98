-- Congruence of natural numbers modulo q.
-- Assumes nothing.
use Rattle.std.specs.Prelude.{◌≡◌, ℕ, ◌%◌}

-- a and b leave the same remainder when divided by q
pub record Mod (q a b : ℕ) : Type 0 where
  pub same : a % q ≡ b % q
