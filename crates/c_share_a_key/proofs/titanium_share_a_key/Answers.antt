-- `c_share_a_key::titanium_share_a_key` gives the answer of the call in one number, and leaves what the call leaves.
-- Assumes nothing.
use mathlib.Core.Path.{ap, ◌∙◌}
use Rattle.share_a_key.specs.Answers.{share_a_key_public, share_a_key_secret, share_a_key_ciphertext, share_a_key_sent, share_a_key_received}
use Rattle.c_answer.specs.Coded.{coded}
use Rattle.c_share_a_key.proofs.titanium_share_a_key.Goals as goal

pub returns : goal.returns
unfolding share_a_key_public share_a_key_secret share_a_key_ciphertext share_a_key_sent share_a_key_received
returns c =
    let made = c.share_a_key.ensures in
    let public = rw made.answer at made.given in
    let secret = rw made.answer at made.kept in
    let sealed = rw made.answer at made.closed in
    let sent = rw made.answer at made.agreed in
    let received = rw made.answer at made.opened in
    record {
      answer = c.code.ensures ∙ ap coded made.answer;
      given = public;
      kept = secret;
      closed = sealed;
      agreed = sent;
      opened = received;
      cleared = made.cleared;
    }
