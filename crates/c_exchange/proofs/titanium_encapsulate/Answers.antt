-- `c_exchange::titanium_encapsulate` gives the answer of the call in one number, and leaves what the call leaves.
-- Assumes nothing.
use mathlib.Core.Path.{ap, ◌∙◌}
use Rattle.c_answer.specs.Coded.{coded}
use Rattle.c_exchange.proofs.titanium_encapsulate.Goals as goal

pub returns : goal.returns
returns c =
    let made = c.encapsulate.ensures in
    record { answer = c.code.ensures ∙ ap coded made.answer; given = made.given; agreed = made.agreed; cleared = made.cleared }
