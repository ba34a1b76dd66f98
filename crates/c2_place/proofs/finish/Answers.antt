-- `c2_place::finish` meets its contract: the place is written, and no other.
-- Assumes nothing.
use mathlib.Core.Path.{sym, ◌∙◌}
use native.Mathlib.Omega.{arith}
use Rattle.c2_place.proofs.Walk.{bit_times, walked_length, walked_more}
use Rattle.c2_place.proofs.finish.Goals as goal

pub overflow_mul-shift : goal.overflow_mul-shift
overflow_mul-shift c =
    omega (arith, bit_times c.args.half c.args.bit c.args.q c.requires.2 c.requires.3, c.requires.4)

pub add-requires : goal.add-requires
add-requires c =
    (c.requires.1, bit_times c.args.half c.args.bit c.args.q c.requires.2 c.requires.3, c.requires.4)

pub returns : goal.returns
returns c finished before value walked =
    walked_more walked (omega (arith, walked_length walked, c.requires.0)) (c.add.ensures ∙ sym value)
