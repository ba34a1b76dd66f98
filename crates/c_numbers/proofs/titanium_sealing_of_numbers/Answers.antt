-- `c_numbers::titanium_sealing_of_numbers` gives the answer of the call in one number, and leaves what the call leaves.
-- Assumes nothing.
use mathlib.Core.Path.{ap, ◌∙◌}
use Rattle.c_answer.specs.Coded.{coded}
use Rattle.c_numbers.proofs.titanium_sealing_of_numbers.Goals as goal

pub returns : goal.returns
returns c =
    let made = c.sealing.ensures in record { answer = c.code.ensures ∙ ap coded made.answer; first = made.first; second = made.second }
