-- Both parts are small.
-- Assumes nothing.
use mathlib.Core.Path.{ap₂}
use Prim.Native.Nat.{◌+◌}
use native.Mathlib.Omega.{arith}
use Rattle.ceiling.specs.Ceiling.{ceiling}
use Rattle.ceiling.proofs.Laws.{products_most, dropped_most}
use Rattle.ceiling.proofs.ceiling.Goals as goal

pub overflow_add-result : goal.overflow_add-result
overflow_add-result c =
    omega (
      arith,
      c.most_products-products.ensures,
      c.most_dropped-dropped.ensures,
      products_most c.args.p c.requires,
      dropped_most c.args.p c.requires,
    )

pub returns : goal.returns
unfolding ceiling
returns c = ap₂ ◌+◌ c.most_products-products.ensures c.most_dropped-dropped.ensures
