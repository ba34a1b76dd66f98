-- `c_exchange::titanium_keypair` gives the answer of the call in one number, and leaves what the call leaves.
-- Assumes nothing.
use mathlib.Core.Path.{ap, ◌∙◌}
use Rattle.c_answer.specs.Coded.{coded}
use Rattle.c_exchange.proofs.titanium_keypair.Goals as goal

pub returns : goal.returns
returns c =
    let made = c.key.ensures in record { answer = c.code.ensures ∙ ap coded made.answer; given = made.given; kept = made.kept; cleared = made.cleared }
