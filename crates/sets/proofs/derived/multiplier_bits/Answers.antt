-- `sets::derived::multiplier_bits` meets its contract, by the two cases of its test.
-- Assumes nothing.
use borrow.Author.Tests.{lt-ltb, le-ltb}
use Rattle.sets.specs.Derived.{multiplier_bits_of}
use Rattle.sets.proofs.derived.multiplier_bits.Goals as goal

pub returns-then-position-p : goal.returns-then-position-p
unfolding multiplier_bits_of
returns-then-position-p c = rw (lt-ltb _ _ c.if-position-p.true)

pub returns-else-position-p : goal.returns-else-position-p
unfolding multiplier_bits_of
returns-else-position-p c = rw (le-ltb _ _ c.if-position-p.false)
