-- The code is the definition.
-- Assumes nothing.
use borrow.Author.Rules.{rules}
use Rattle.sets.specs.Derived.{packed_bytes_of}
use Rattle.sets.proofs.derived.packed_bytes.Goals as goal

pub returns : goal.returns
unfolding packed_bytes_of
returns c = search rules
