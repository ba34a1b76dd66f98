-- `numbers::signed::size_within` meets its contract: a number between −limit and limit.
-- Assumes nothing.
use mathlib.Core.Path.{sym}
use Rattle.numbers.proofs.Size.{negated_fits, stored_above, stored_beneath, stored_between}
use Rattle.numbers.proofs.signed.size_within.Goals as goal

pub returns-then-bound-z : goal.returns-then-bound-z
returns-then-bound-z c = sym (stored_above c.args.z c.args.limit c.ranges.z c.requires c.if-bound-z.true)

pub overflow_sub-bound : goal.overflow_sub-bound
overflow_sub-bound c = negated_fits c.args.z c.args.limit c.ranges.z c.requires

pub returns-then-z-bound : goal.returns-then-z-bound
returns-then-z-bound c = sym (stored_beneath c.args.z c.args.limit c.ranges.z c.requires c.if-z-bound.true)

pub returns : goal.returns
returns c =
    sym (stored_between c.args.z c.args.limit c.ranges.z c.requires c.if-bound-z.false c.if-z-bound.false)
