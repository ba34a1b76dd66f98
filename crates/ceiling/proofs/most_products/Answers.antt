-- The product fits a word.
-- Assumes nothing.
use mathlib.Core.Path.{◌≡◌, ap}
use Prim.Native.Nat.{ℕ, ◌*◌}
use native.Mathlib.Omega.{arith}
use Rattle.ceiling.specs.Ceiling.{most_products_of}
use Rattle.ceiling.proofs.Laws.{products_most}
use Rattle.ceiling.proofs.most_products.Goals.{After-multiplier_sizes}
use Rattle.ceiling.proofs.most_products.Goals as goal

-- what it is
product_is : (c : After-multiplier_sizes) → c.args.p.eta * c.multiplier_sizes.result ≡ most_products_of c.args.p
unfolding most_products_of
product_is c = ap (λ (n : ℕ). c.args.p.eta * n) c.multiplier_sizes.ensures

pub overflow_mul-result : goal.overflow_mul-result
overflow_mul-result c = omega (arith, product_is c, products_most c.args.p c.requires)

pub returns : goal.returns
returns c = product_is c
