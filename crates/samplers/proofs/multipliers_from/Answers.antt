-- `samplers::multipliers_from` meets its contract: the bytes are the first of a local array.
-- Assumes nothing.
use mathlib.Core.Path.{◌∙◌}
use native.Mathlib.Omega.{arith}
use Rattle.calls.proofs.Parts.{array_front}
use borrow.Author.Rules.{rules}
use Rattle.samplers.proofs.multipliers_from.Goals as goal

pub multipliers_with_buffers-requires : goal.multipliers_with_buffers-requires
multipliers_with_buffers-requires c =
    let size = c.multiplier_draw_bytes-size in
    let pre = c.requires in
    let bytes = array_front 15232 size.result (omega (arith, size.ensures, pre.1.most_multiplier_bytes)) ∙ size.ensures in
    record { rules = (pre.0, pre.1, pre.2); bytes_len = (bytes, pre.3) }
