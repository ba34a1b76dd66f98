-- `hashes::kmacxof256` refuses a slice that is too long, and else meets the standard.
-- Assumes nothing.
use mathlib.Core.Path.{sym, ◌∙◌}
use Rattle.hashes.proofs.Answering.{too_long, within_limit, four_limits}
use Rattle.hashes.proofs.kmacxof256.Goals as goal

pub returns-then-not-all_within : goal.returns-then-not-all_within
returns-then-not-all_within c =
    let whole = too_long _ _ _ (sym c.all_within.ensures ∙ c.if-not-all_within.true) in record { answer = whole.0; result = whole.1 }

pub kmacxof256_into-requires : goal.kmacxof256_into-requires
kmacxof256_into-requires c =
    let t = four_limits _ _ _ _ (sym c.all_within.ensures ∙ c.if-not-all_within.false) in
    (t.0, t.2)

pub returns : goal.returns
returns c =
    let whole = within_limit _ _ _ (sym c.all_within.ensures ∙ c.if-not-all_within.false)
    c.kmacxof256_into.ensures in record { answer = whole.0; result = whole.1 }
