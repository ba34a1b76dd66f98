-- The product fits a word.
-- Assumes nothing.
use Rattle.sheet_noise.proofs.Words.{product_fits, product_is}
use Rattle.sheet_noise.proofs.whole.times.Goals as goal

pub overflow_mul-result : goal.overflow_mul-result
overflow_mul-result c = product_fits c.args.x c.args.y c.ranges.x c.ranges.y c.requires.0 c.requires.1

pub returns : goal.returns
returns c = product_is c.args.x c.args.y c.ranges.x c.ranges.y c.requires.0 c.requires.1
