-- `calls::first_at_least` meets its contract: each number that the loop has passed is below the limit.
-- Assumes nothing.
use native.Mathlib.Omega.{arith}
use borrow.Author.Count.{below_more}
use borrow.Author.Tests.{lt-ltb, le-ltb}
use lib.ListN.{length}
use Rattle.calls.specs.Checks.{below}
use Rattle.calls.proofs.Checks.{passing_is}
use Rattle.calls.proofs.first_at_least.Goals as goal

pub returns-then-x-limit : goal.returns-then-x-limit
returns-then-x-limit c =
    let at = c.loop-i in
    passing_is (below c.args.limit) 0 c.args.xs.now 0 at.i (omega arith) at.invariant (λ h. le-ltb _ _ c.if-x-limit.true)

pub loop-i-preserved : goal.loop-i-preserved
loop-i-preserved c = below_more _ _ c.loop-i.invariant (lt-ltb _ _ c.if-x-limit.false)

pub returns : goal.returns
returns c =
    passing_is (below c.args.limit) 0 c.args.xs.now 0 (length c.args.xs.now) (omega arith)
    (λ k h. c.loop-i.invariant k (omega arith)) (λ h. absurd (omega arith))
