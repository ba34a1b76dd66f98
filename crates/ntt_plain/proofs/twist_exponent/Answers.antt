-- `ntt_plain::twist_exponent` meets its contract. Assumes nothing.
use mathlib.Core.Path.{refl}
use native.Mathlib.Omega.{arith}
use Rattle.ntt_plain.proofs.Steps.{exponent_below}
use Rattle.ntt_plain.proofs.twist_exponent.Goals as goal

pub overflow_mul-result : goal.overflow_mul-result
overflow_mul-result c = record { fits = omega (arith, exponent_below c.args.row c.args.i c.requires) }

pub returns : goal.returns
returns c = (refl, exponent_below c.args.row c.args.i c.requires)
