-- `encryption::decrypt_if_below` meets its contract: the numbers of c1 are looked at before the secret is drawn.
-- Assumes nothing.
use mathlib.Core.Path.{sym, ◌∙◌}
use borrow.Author.Rules.{rules}
use Rattle.calls.proofs.Outcome.{refused_call}
use Rattle.scheme.proofs.Answers.{reading_refused, reading_passed}
use Rattle.encryption.proofs.decrypt_if_below.Goals as goal

pub decrypt-requires : goal.decrypt-requires
decrypt-requires c =
    (c.requires.0, c.requires.1, search rules, search rules)

pub returns-then-not-first_below : goal.returns-then-not-first_below
returns-then-not-first_below c =
    let whole = refused_call _ _ (reading_refused _ _ _ (sym c.first_below.ensures ∙ c.if-not-first_below.true)) in record { answer = whole.0; read = whole.1 }

pub returns : goal.returns
returns c =
    let opened = c.decrypt in
    let passed = reading_passed _ _ _ (sym c.first_below.ensures ∙ c.if-not-first_below.false) in
    record { answer = opened.ensures.answer ∙ sym passed; read = opened.ensures.read ∙ rw passed }
