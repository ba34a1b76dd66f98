-- `numbers::signed::multiplier_bound` meets its contract: a bit shifted by the bits of a size is the bound.
-- Assumes nothing.
use native.Mathlib.Omega.{arith}
use Rattle.sets.proofs.Counts.{bits_most}
use Rattle.numbers.proofs.MultiplierLaws.{bound_shifted}
use Rattle.numbers.proofs.signed.multiplier_bound.Goals as goal

pub overflow_shl-result : goal.overflow_shl-result
overflow_shl-result c =
    rw c.multiplier_bits.ensures (omega (arith, bits_most c.args.p c.requires c.args.position))

pub returns : goal.returns
returns c =
    rw c.multiplier_bits.ensures (bound_shifted c.args.p c.requires c.args.position)
