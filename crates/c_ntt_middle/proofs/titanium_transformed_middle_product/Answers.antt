-- `c_ntt_middle::titanium_transformed_middle_product` gives the answer of the call in one number, and leaves what the call leaves.
-- Assumes nothing.
use mathlib.Core.Path.{ap, ◌∙◌}
use Rattle.c_answer.specs.Coded.{coded}
use Rattle.c_ntt_middle.proofs.titanium_transformed_middle_product.Goals as goal

pub returns : goal.returns
returns c =
    let made = c.middle_product.ensures in record { answer = c.code.ensures ∙ ap coded made.answer; left = made.left; cleared = made.cleared }
