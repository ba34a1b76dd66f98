-- `c_hashes::titanium_kmacxof256` gives the answer of the call in one number, and leaves what the call leaves.
-- Assumes nothing.
use mathlib.Core.Path.{ap, ◌∙◌}
use Rattle.c_answer.specs.Coded.{coded}
use Rattle.c_hashes.proofs.titanium_kmacxof256.Goals as goal

pub returns : goal.returns
returns c =
    let made = c.kmacxof256.ensures in record { answer = c.code.ensures ∙ ap coded made.answer; result = made.result }
