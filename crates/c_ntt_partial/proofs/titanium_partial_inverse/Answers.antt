-- `c_ntt_partial::titanium_partial_inverse` gives the answer of the call in one number, and leaves what the call leaves.
-- Assumes nothing.
use mathlib.Core.Path.{ap, ◌∙◌}
use Rattle.c_answer.specs.Coded.{coded}
use Rattle.c_ntt_partial.proofs.titanium_partial_inverse.Goals as goal

pub returns : goal.returns
returns c =
    let made = c.inverse.ensures in record { answer = c.code.ensures ∙ ap coded made.answer; left = made.left }
