-- `draws::small::sign_at` meets its contract: shifts and masks by powers of 2 are quotients and remainders.
-- Assumes nothing.
use Prim.Native.Nat.{◌/◌, ◌%◌, ◌^◌}
use native.Mathlib.Omega.{arith}
use lib.Bits.{and_mask}
use Rattle.draws.specs.Small.{sign_bit}
use Rattle.draws.proofs.small.sign_at.Goals as goal

pub overflow_cast-result : goal.overflow_cast-result
overflow_cast-result c = rw (and_mask c.args.position 3) (omega arith)

pub overflow_shr-result : goal.overflow_shr-result
overflow_shr-result c = rw (and_mask c.args.position 3) (omega arith)

pub returns : goal.returns
unfolding sign_bit
returns c =
    let args = c.args in
    rw (and_mask args.position 3, and_mask (c.from-byte.result / 2 ^ (args.position % 8)) 1, c.from-byte.ensures)
