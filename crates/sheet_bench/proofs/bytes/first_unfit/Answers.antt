-- `sheet_bench::bytes::first_unfit` meets its contract: each byte that the loop has passed is in range.
-- Assumes nothing.
use mathlib.Core.Path.{sym, ◌∙◌}
use native.Mathlib.Nat.{zero-add}
use native.Mathlib.Omega.{arith}
use lib.ListN.{length}
use borrow.Author.Count.{below_none, below_more}
use Rattle.calls.proofs.Checks.{passing_is}
use Rattle.sheet_bench.specs.Bench.{bench_fits}
use borrow.Author.Rules.{rules}
use Rattle.sheet_bench.proofs.bytes.first_unfit.Goals as goal

pub loop-i-init : goal.loop-i-init
loop-i-init c = (search rules, below_none _)

pub returns-then-not-fits : goal.returns-then-not-fits
returns-then-not-fits c =
    let at = c.loop-i in
    passing_is bench_fits 0 c.args.input.now 0 at.i at.invariant.0 (λ k h. rw zero-add (at.invariant.1 k h))
    (λ h. rw zero-add (sym c.fits.ensures ∙ c.if-not-fits.true))

pub loop-i-preserved : goal.loop-i-preserved
loop-i-preserved c = (search rules, below_more _ _ c.loop-i.invariant.1 (sym c.fits.ensures ∙ c.if-not-fits.false))

pub returns : goal.returns
returns c =
    passing_is bench_fits 0 c.args.input.now 0 (length c.args.input.now) (omega arith) (λ k h. rw zero-add (c.loop-i.invariant.1 k (omega arith)))
    (λ h. absurd (omega arith))
