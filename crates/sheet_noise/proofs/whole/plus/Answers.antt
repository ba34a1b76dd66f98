-- The sum fits a word.
-- Assumes nothing.
use Rattle.sheet_noise.proofs.Words.{sum_fits, sum_is}
use Rattle.sheet_noise.proofs.whole.plus.Goals as goal

pub overflow_add-result : goal.overflow_add-result
overflow_add-result c = sum_fits c.args.x c.args.y c.ranges.x c.ranges.y c.requires.0 c.requires.1

pub returns : goal.returns
returns c = sum_is c.args.x c.args.y c.ranges.x c.ranges.y c.requires.0 c.requires.1
