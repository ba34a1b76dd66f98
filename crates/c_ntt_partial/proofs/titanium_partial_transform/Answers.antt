-- `c_ntt_partial::titanium_partial_transform` gives the answer of the call in one number, and leaves what the call leaves.
-- Assumes nothing.
use mathlib.Core.Path.{ap, ◌∙◌}
use Rattle.c_answer.specs.Coded.{coded}
use Rattle.c_ntt_partial.proofs.titanium_partial_transform.Goals as goal

pub returns : goal.returns
returns c =
    let made = c.forward.ensures in record { answer = c.code.ensures ∙ ap coded made.answer; left = made.left }
