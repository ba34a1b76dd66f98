-- `c_seal_and_read::titanium_seal_and_read` gives the answer of the call in one number, and leaves what the call leaves.
-- Assumes nothing.
use mathlib.Core.Path.{ap, ◌∙◌}
use Rattle.seal_and_read.specs.Answers.{seal_and_read_public, seal_and_read_secret, seal_and_read_ciphertext, seal_and_read_message}
use Rattle.c_answer.specs.Coded.{coded}
use Rattle.c_seal_and_read.proofs.titanium_seal_and_read.Goals as goal

pub returns : goal.returns
unfolding seal_and_read_public seal_and_read_secret seal_and_read_ciphertext seal_and_read_message
returns c =
    let made = c.seal_and_read.ensures in
    let public = rw made.answer at made.given in
    let secret = rw made.answer at made.kept in
    let sealed = rw made.answer at made.sent in
    let read = rw made.answer at made.opened in
    record { answer = c.code.ensures ∙ ap coded made.answer; given = public; kept = secret; sent = sealed; opened = read; cleared = made.cleared }
