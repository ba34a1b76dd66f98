-- `c_draws::titanium_draw_residues` gives the answer of the call in one number, and leaves what the call leaves.
-- Assumes nothing.
use mathlib.Core.Path.{ap, ◌∙◌}
use Rattle.c_answer.specs.Coded.{coded}
use Rattle.c_draws.proofs.titanium_draw_residues.Goals as goal

pub returns : goal.returns
returns c =
    let made = c.residues.ensures in record { answer = c.code.ensures ∙ ap coded made.answer; result = made.result }
