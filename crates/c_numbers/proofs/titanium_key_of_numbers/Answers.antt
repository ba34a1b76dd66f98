-- `c_numbers::titanium_key_of_numbers` gives the answer of the call in one number, and leaves what the call leaves.
-- Assumes nothing.
use mathlib.Core.Path.{ap, ◌∙◌}
use Rattle.c_answer.specs.Coded.{coded}
use Rattle.c_numbers.proofs.titanium_key_of_numbers.Goals as goal

pub returns : goal.returns
returns c =
    let made = c.key.ensures in record { answer = c.code.ensures ∙ ap coded made.answer; left = made.left }
