-- `ntt_rows::inverse_row` meets its contract: the transform and the twist.
-- Assumes nothing.
use Rattle.ntt_rows.proofs.Rows.{inverse_steps}
use Rattle.ntt_rows.proofs.inverse_row.Goals as goal

pub returns : goal.returns
returns c =
    inverse_steps c.transform_row.ensures c.multiply.ensures
