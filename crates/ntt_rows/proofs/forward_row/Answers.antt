-- `ntt_rows::forward_row` meets its contract: the twist, the transform and the residues.
-- Assumes nothing.
use mathlib.Core.Path.{◌∙◌}
use Rattle.ntt_rows.proofs.Rows.{forward_steps}
use Rattle.ntt_rows.proofs.forward_row.Goals as goal

pub returns : goal.returns
returns c =
    let size = c.transform_row.auto.to ∙ c.requires.size in
    forward_steps c.multiply.ensures c.transform_row.ensures size c.settle.ensures
