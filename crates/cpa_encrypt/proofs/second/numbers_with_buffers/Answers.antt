-- The walk makes c2 out of the rows of the sums of correlations.
-- Assumes nothing.
use mathlib.Core.Path.{◌∙◌}
use Rattle.cpa_encrypt.proofs.Correlating.{second_sums_lem}
use Rattle.cpa_encrypt.proofs.second.numbers_with_buffers.Goals as goal

pub walk-requires : goal.walk-requires
walk-requires c =
    let pre = c.requires in
    (pre.0, pre.1, c.sum_rows.ensures.size, c.sum_rows.ensures.below, pre.4)

pub returns : goal.returns
returns c =
    c.walk.ensures _ c.sum_rows.ensures
    ∙ second_sums_lem c.args.p c.requires.1 c.args.numbers.now c.args.multipliers.now c.requires.3 c.args.message.now
