-- `samplers::errors_from` meets its contract: the bytes are the first of a local array.
-- Assumes nothing.
use mathlib.Core.Path.{◌∙◌}
use native.Mathlib.Omega.{arith}
use Rattle.calls.proofs.Parts.{array_front}
use borrow.Author.Rules.{rules}
use Rattle.samplers.proofs.errors_from.Goals as goal

pub errors_with_buffers-requires : goal.errors_with_buffers-requires
errors_with_buffers-requires c =
    let size = c.error_draw_bytes-size in
    let pre = c.requires in
    let bytes = array_front 10240 size.result (omega (arith, size.ensures, pre.rules.1.most_error_bytes)) ∙ size.ensures in
    record { rules = (pre.rules.0, pre.rules.1, pre.rules.2, pre.p_bound); bytes_len = (bytes, pre.rules.3) }
