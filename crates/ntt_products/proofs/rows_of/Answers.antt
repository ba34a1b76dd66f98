-- The size is divided by the length of a row.
-- Assumes nothing.
use mathlib.Core.Path.{ap}
use Prim.Native.Nat.{ℕ, ◌/◌}
use native.Mathlib.Omega.{arith}
use Rattle.ntt_products.proofs.rows_of.Goals as goal

pub nonzero_div-result : goal.nonzero_div-result
nonzero_div-result c = omega (arith, c.requires.some_row)

pub returns : goal.returns
returns c = ap (λ (size : ℕ). size / c.args.p.row) c.transform_size.ensures
