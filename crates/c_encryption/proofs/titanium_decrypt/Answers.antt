-- `c_encryption::titanium_decrypt` gives the answer of the call in one number, and leaves what the call leaves.
-- Assumes nothing.
use mathlib.Core.Path.{ap, ◌∙◌}
use Rattle.c_answer.specs.Coded.{coded}
use Rattle.c_encryption.proofs.titanium_decrypt.Goals as goal

pub returns : goal.returns
returns c =
    let made = c.decrypt.ensures in record { answer = c.code.ensures ∙ ap coded made.answer; read = made.read; cleared = made.cleared }
