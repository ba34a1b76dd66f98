-- `numbers_key::first_error` meets its contract: each number that the loop has passed is within the limit.
-- Assumes nothing.
use mathlib.Core.Path.{◌≡◌, sym, ap, ◌∙◌}
use mathlib.Core.Bool.{true}
use Prim.Native.Nat.{◌-◌}
use lib.Dec.{leb}
use lib.IntN.{ℤ, pos, nat_abs}
use lib.ListN.{length, get_or}
use native.Mathlib.Omega.{arith}
use borrow.Author.Count.{below_none, below_more}
use Rattle.calls.proofs.Checks.{passing_is}
use Rattle.numbers.specs.Calls.{is_error}
use Rattle.numbers.proofs.Size.{entry_kept}
use borrow.Author.Rules.{rules}
use Rattle.numbers_key.proofs.first_error.Goals.{After-size_within}
use Rattle.numbers_key.proofs.first_error.Goals as goal

pub loop-i-init : goal.loop-i-init
loop-i-init c = (search rules, below_none _)

-- a turn tests the number at its place
tested : (c : After-size_within)
    → c.size_within.result ≡ leb (nat_abs (get_or c.args.es.now c.loop-i.i (pos 0)))
    c.args.eta
tested c =
    c.size_within.ensures
    ∙ ap (λ (z : ℤ). leb (nat_abs z) c.args.eta)
    (entry_kept (get_or c.args.es.now c.loop-i.i (pos 0)) c.size_within-arg-1.given)

pub returns-then-not-size_within : goal.returns-then-not-size_within
returns-then-not-size_within c =
    let at = c.loop-i in
    passing_is (is_error c.args.eta) 0 c.args.es.now (pos 0) at.i at.invariant.0 at.invariant.1
    (λ h. sym (tested (goal.at.returns-then-not-size_within c).After-size_within) ∙ c.if-not-size_within.true)

pub loop-i-preserved : goal.loop-i-preserved
loop-i-preserved c =
    (search rules, below_more _ _ c.loop-i.invariant.1 (sym (tested (goal.at.loop-i-preserved c).After-size_within) ∙ c.if-not-size_within.false))

pub returns : goal.returns
returns c =
    passing_is (is_error c.args.eta) 0 c.args.es.now (pos 0) (length c.args.es.now) (omega arith) (λ k h. c.loop-i.invariant.1 k (omega arith))
    (λ h. absurd (omega arith))
