-- The noise of a sealing at place j, an exact whole number (01, Noise): the sum over i of the middle product of r_i and e_i, signs kept.
-- Assumes nothing.
use Rattle.std.specs.Prelude.{List, ℕ, ◌+◌, ℤ}
use Rattle.maths.specs.Integer.{sum_ℤ, product_ℤ}
use Rattle.sets.specs.declared.Parameters.{Parameters}
use Rattle.calls.specs.Region.{vector}

unfoldable pub numbers_noise : Parameters → List ℤ → List ℤ → ℕ → ℤ
numbers_noise p e r j = sum_ℤ p.t (λ i. product_ℤ (vector (p.k + 1) r i) (vector (p.d + p.k) e i) (p.k + j))
