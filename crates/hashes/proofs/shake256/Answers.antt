-- `hashes::shake256` refuses a slice that is too long, and else meets the standard.
-- Assumes nothing.
use Rattle.hashes.proofs.Answering.{too_long, within_limit, two_first, two_second, two_within}
use Rattle.hashes.proofs.shake256.Goals as goal

pub returns-then-input-gt-LIMIT : goal.returns-then-input-gt-LIMIT
returns-then-input-gt-LIMIT c =
    let whole = too_long _ _ _ (two_first _ _ c.if-input-gt-LIMIT.true) in record { answer = whole.0; result = whole.1 }

pub returns-then-out-gt-LIMIT : goal.returns-then-out-gt-LIMIT
returns-then-out-gt-LIMIT c =
    let whole = too_long _ _ _ (two_second _ _ c.if-out-gt-LIMIT.true) in record { answer = whole.0; result = whole.1 }

pub returns : goal.returns
returns c =
    let whole = within_limit _ _ _ (two_within _ _ c.if-input-gt-LIMIT.false c.if-out-gt-LIMIT.false)
    c.shake256_into.ensures in record { answer = whole.0; result = whole.1 }
