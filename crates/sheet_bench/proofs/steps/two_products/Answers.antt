-- `sheet_bench::steps::two_products` meets its contract: products and sum are small.
-- Assumes nothing.
use Rattle.sheet_bench.proofs.NoiseLaws.{first_fits, second_fits, sum_fits, wide_fits, wide_is}
use Rattle.sheet_bench.proofs.steps.two_products.Goals as goal

pub overflow_mul-first : goal.overflow_mul-first
overflow_mul-first c =
    first_fits c.args.x c.args.y c.args.u c.args.v c.ranges.x c.ranges.y c.ranges.u c.ranges.v c.requires.0 c.requires.1 c.requires.2
    c.requires.3

pub overflow_mul-second : goal.overflow_mul-second
overflow_mul-second c =
    second_fits c.args.x c.args.y c.args.u c.args.v c.ranges.x c.ranges.y c.ranges.u c.ranges.v c.requires.0 c.requires.1 c.requires.2
    c.requires.3

pub overflow_add-result : goal.overflow_add-result
overflow_add-result c =
    sum_fits c.args.x c.args.y c.args.u c.args.v c.ranges.x c.ranges.y c.ranges.u c.ranges.v c.requires.0 c.requires.1 c.requires.2
    c.requires.3

pub overflow_cast-result : goal.overflow_cast-result
overflow_cast-result c =
    wide_fits c.args.x c.args.y c.args.u c.args.v c.ranges.x c.ranges.y c.ranges.u c.ranges.v c.requires.0 c.requires.1 c.requires.2
    c.requires.3

pub returns : goal.returns
returns c =
    wide_is c.args.x c.args.y c.args.u c.args.v c.ranges.x c.ranges.y c.ranges.u c.ranges.v c.requires.0 c.requires.1 c.requires.2
    c.requires.3
