-- `draws::small::signs_at` meets its contract: the product is small.
-- Assumes nothing.
use native.Mathlib.Omega.{arith}
use Rattle.draws.specs.Small.{signs_at_of}
use Rattle.draws.proofs.Positions.{place_most}
use Rattle.draws.proofs.small.signs_at.Goals as goal

pub overflow_mul-result : goal.overflow_mul-result
overflow_mul-result c =
    let pre = c.requires in
    record { fits = omega (arith, place_most c.multiplier_count.result c.multiplier_bytes.result (omega arith) (omega arith)) }

pub returns : goal.returns
unfolding signs_at_of
returns c = rw (c.multiplier_count.ensures, c.multiplier_bytes.ensures)
