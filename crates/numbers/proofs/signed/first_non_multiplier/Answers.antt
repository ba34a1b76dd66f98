-- `numbers::signed::first_non_multiplier` meets its contract: each number that the loop has passed is a multiplier at its position.
-- Assumes nothing.
use mathlib.Core.Path.{◌≡◌, sym, ap, ◌∙◌}
use mathlib.Core.Bool.{true}
use Prim.Native.Nat.{◌-◌}
use native.Mathlib.Nat.{zero-add}
use native.Mathlib.Omega.{arith}
use lib.IntN.{ℤ, pos}
use lib.ListN.{length, get_or}
use borrow.Author.Count.{below_none, below_more}
use Rattle.calls.proofs.Checks.{passing_is}
use Rattle.numbers.specs.Calls.{is_multiplier_of}
use Rattle.numbers.proofs.Size.{entry_kept}
use borrow.Author.Rules.{rules}
use Rattle.numbers.proofs.signed.first_non_multiplier.Goals.{After-is_multiplier}
use Rattle.numbers.proofs.signed.first_non_multiplier.Goals as goal

pub loop-i-init : goal.loop-i-init
loop-i-init c = (search rules, below_none _)

-- a turn tests the number at its place
tested : (c : After-is_multiplier)
    → c.is_multiplier.result
    ≡ is_multiplier_of c.args.p c.loop-i.i
    (get_or c.args.rs.now c.loop-i.i (pos 0))
tested c =
    let i = c.loop-i.i in
    c.is_multiplier.ensures
    ∙ ap (λ (z : ℤ). is_multiplier_of c.args.p i z) (entry_kept (get_or c.args.rs.now i (pos 0)) c.is_multiplier-arg-1.given)

pub returns-then-not-is_multiplier : goal.returns-then-not-is_multiplier
returns-then-not-is_multiplier c =
    let at = c.loop-i in
    passing_is (is_multiplier_of c.args.p) 0 c.args.rs.now (pos 0) at.i at.invariant.0 (λ k h. rw zero-add (at.invariant.1 k h))
    (λ h. rw zero-add (sym (tested (goal.at.returns-then-not-is_multiplier c).After-is_multiplier) ∙ c.if-not-is_multiplier.true))

pub loop-i-preserved : goal.loop-i-preserved
loop-i-preserved c =
    (search rules, below_more _ _ c.loop-i.invariant.1 (sym (tested (goal.at.loop-i-preserved c).After-is_multiplier) ∙ c.if-not-is_multiplier.false))

pub returns : goal.returns
returns c =
    passing_is (is_multiplier_of c.args.p) 0 c.args.rs.now (pos 0) (length c.args.rs.now) (omega arith)
    (λ k h. rw zero-add (c.loop-i.invariant.1 k (omega arith))) (λ h. absurd (omega arith))
