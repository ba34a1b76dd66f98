-- `keccak::round` is the five step mappings, one after the other.
-- Assumes nothing.
use Rattle.keccak.proofs.round.Goals as goal

pub returns : goal.returns
returns c = cc
