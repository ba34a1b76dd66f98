-- `c_exchange::titanium_decapsulate` gives the answer of the call in one number, and leaves what the call leaves.
-- Assumes nothing.
use mathlib.Core.Path.{ap, ◌∙◌}
use Rattle.c_answer.specs.Coded.{coded}
use Rattle.c_exchange.proofs.titanium_decapsulate.Goals as goal

pub returns : goal.returns
returns c =
    let made = c.decapsulate.ensures in record { answer = c.code.ensures ∙ ap coded made.answer; agreed = made.agreed; cleared = made.cleared }
