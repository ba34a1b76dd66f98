-- `bit_fields::bit_at` (003, algorithm 27) meets its contract.
-- Assumes nothing.
use Rattle.bit_fields.proofs.bit_at.Goals as goal

pub returns : goal.returns
returns c = rw c.byte_at.ensures.0
