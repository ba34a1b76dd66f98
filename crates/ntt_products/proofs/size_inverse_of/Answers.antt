-- The inverse of the size as its definition has it.
-- Assumes nothing.
use mathlib.Core.Path.{ap}
use Prim.Native.Nat.{ℕ, ◌-◌, ◌/◌}
use native.Mathlib.Nat.{div-le_self}
use native.Mathlib.Omega.{arith}
use Rattle.maths.specs.Root.{inverse_size}
use Rattle.ntt_products.specs.Stored.{size_inverse_of}
use Rattle.ntt_products.proofs.Sizes.{least_size, most_size}
use Rattle.ntt_products.proofs.size_inverse_of.Goals as goal

pub overflow_cast-size : goal.overflow_cast-size
overflow_cast-size c = omega (arith, c.transform_size-size.ensures, most_size c.args.p c.requires c.args.i)

pub nonzero_div-result : goal.nonzero_div-result
nonzero_div-result c =
    omega (arith, c.transform_size-size.ensures, least_size c.args.p c.requires c.args.i)

pub overflow_sub-result-2 : goal.overflow_sub-result-2
overflow_sub-result-2 c = omega (arith, div-le_self (c.args.p.q - 1) c.transform_size-size.result)

pub returns : goal.returns
unfolding size_inverse_of inverse_size
returns c =
    let p = c.args.p in
    ap (λ (size : ℕ). p.q - (p.q - 1) / size) c.transform_size-size.ensures
