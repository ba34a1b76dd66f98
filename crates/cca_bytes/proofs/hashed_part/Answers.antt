-- `cca_bytes::hashed_part` meets its contract: the part taken is the whole message or the second half of the expanded seed.
-- Assumes nothing.
use Rattle.cca_bytes.proofs.Parts.{message_part, reject_part}
use Rattle.cca_bytes.proofs.hashed_part.Goals as goal

pub returns-then-agrees : goal.returns-then-agrees
returns-then-agrees c =
    let whole = message_part 32 _ c.args.message.now c.args.expanded.now c.if-agrees.true c.requires.0 in record { part = whole.0; size = whole.1 }

pub returns : goal.returns
returns c =
    let whole = reject_part 32 _ c.args.message.now c.args.expanded.now c.if-agrees.false c.requires.1 in record { part = whole.0; size = whole.1 }
