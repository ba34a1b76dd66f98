-- `numbers::counts::product` meets its contract: the product is at most 2^24.
-- Assumes nothing.
use native.Mathlib.Nat.{mul-le-mul}
use native.Mathlib.Omega.{arith}
use Rattle.numbers.proofs.counts.product.Goals as goal

pub overflow_mul-result : goal.overflow_mul-result
overflow_mul-result c = record { fits = omega (arith, mul-le-mul {n₁ = c.args.x} {m₁ = c.args.y} {n₂ = 4096} {m₂ = 4096} c.requires.0 c.requires.1) }
