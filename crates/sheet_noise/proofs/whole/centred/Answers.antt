-- A residue up to half is kept; from a larger one the modulus is taken.
-- Assumes nothing.
use mathlib.Core.Path.{sym, ◌∙◌}
use native.Mathlib.Omega.{arith}
use Prim.Native.Nat.{◌+◌, ◌-◌, ◌*◌}
use Rattle.maths.proofs.Integer.{centre_low, centre_high}
use Rattle.maths.proofs.SignedWord.{natural_is, opposite_fits, opposite_is}
use Rattle.sheet_noise.proofs.whole.centred.Goals as goal

pub overflow_sub-result-else-w-half : goal.overflow_sub-result-else-w-half
overflow_sub-result-else-w-half c = opposite_fits (2 * c.args.half + 1 - c.args.w) (omega arith)

pub returns-then-w-half : goal.returns-then-w-half
returns-then-w-half c = natural_is c.args.w (omega arith) ∙ sym (centre_low c.args.half c.args.w (omega arith))

pub returns-else-w-half : goal.returns-else-w-half
returns-else-w-half c =
    opposite_is (2 * c.args.half + 1 - c.args.w) (omega arith)
    ∙ sym (centre_high c.args.half c.args.w (omega arith))
