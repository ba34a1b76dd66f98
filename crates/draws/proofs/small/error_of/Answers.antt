-- `draws::small::error_of` meets its contract: the machine counts the ones of each half.
-- Assumes nothing.
use native.Mathlib.Omega.{arith}
use Rattle.draws.proofs.Bits.{pos_fits, low_most, high_most, difference_fits, error_is}
use borrow.Author.Rules.{rules}
use Rattle.draws.proofs.small.error_of.Goals as goal

pub overflow_cast-low : goal.overflow_cast-low
overflow_cast-low c = pos_fits (omega (arith, low_most c.args.byte (search rules)))

pub overflow_cast-high : goal.overflow_cast-high
overflow_cast-high c = pos_fits (omega (arith, high_most c.args.byte (search rules)))

pub overflow_sub-result : goal.overflow_sub-result
overflow_sub-result c =
    let low = low_most c.args.byte (search rules) in
    let high = high_most c.args.byte (search rules) in
    search difference_fits

pub returns : goal.returns
returns c = error_is c.args.byte (search rules)
