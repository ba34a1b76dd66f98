-- `middle::middle_product` meets its contract: the checks come in the order of the definition, and only an accepted call writes.
-- Assumes nothing.
use mathlib.Core.Path.{◌≡◌, sym, ap, ◌∙◌}
use mathlib.Core.Bool.{true}
use lib.ListN.{length}
use native.Mathlib.Omega.{arith}
use borrow.Author.Tests.{leb-true, eqb-true}
use Rattle.calls.specs.Outcome.{outcome, accepted}
use Rattle.calls.specs.Checks.{all_of}
use Rattle.calls.proofs.Outcome.{refused_call, accepted_call, handed_call}
use Rattle.calls.proofs.Checks.{all_of_each}
use Rattle.sets.specs.declared.Parameters.{Parameters}
use Rattle.sets.proofs.Rules.{rules as set_rules}
use Rattle.middle.specs.Calls.{middle_shape, middle_answer, middle_left}
use Rattle.middle.proofs.Chained.{accepted_two}
use Rattle.middle.proofs.OpenCall.{opening_set, opening_lengths, operand}
use Rattle.middle.proofs.MiddleAnswer.{middle_numbers}
use Rattle.middle.proofs.middle_product.Goals.{After-two_checked, Else-not-lengths_fit}
use Rattle.middle.proofs.middle_product.Goals as goal

pub returns-then-set-gt-LAST : goal.returns-then-set-gt-LAST
unfolding middle_answer middle_left
returns-then-set-gt-LAST c =
    let whole = refused_call _ _ (opening_set _ _ 6 _ c.if-set-gt-LAST.true) in record { answer = whole.0; left = whole.1 }

pub returns-then-not-lengths_fit : goal.returns-then-not-lengths_fit
unfolding middle_answer middle_left
returns-then-not-lengths_fit c =
    let whole = refused_call _ _ (opening_lengths _ _ 6 _ c.if-set-gt-LAST.false (sym c.lengths_fit.ensures ∙ c.if-not-lengths_fit.true)) in
    record { answer = whole.0; left = whole.1 }

-- where the lengths fit
lengths : (c : Else-not-lengths_fit)
    → all_of (middle_shape (length c.args.a.now)
    (length c.args.b.now)
    (length c.args.out.now)) ≡ true
lengths c = sym c.lengths_fit.ensures ∙ c.if-not-lengths_fit.false

-- the numbers decide
decided : (c : After-two_checked)
    → middle_answer c.args.set
    c.args.a.now
    c.args.b.now
    (length c.args.out.now) ≡ outcome c.two_checked.result
decided c =
    middle_numbers c.args.set c.args.a.now c.args.b.now (length c.args.out.now)
    c.parameters_of-p.result.q (ap (λ (p : Parameters). p.q) c.parameters_of-p.ensures)
    c.if-set-gt-LAST.false (lengths (goal.at.After-two_checked c).Else-not-lengths_fit)
    ∙ sym c.two_checked.ensures

pub two_checked-requires : goal.two_checked-requires
two_checked-requires c = let each = all_of_each _ (lengths c) in omega (arith, leb-true, eqb-true)

pub fill-requires : goal.fill-requires
fill-requires c =
    let q = c.parameters_of-p.result.q in
    let a = c.args.a.now in
    let b = c.args.b.now in
    let each = all_of_each _ (lengths (goal.at.fill-requires c).Else-not-lengths_fit) in
    let kept = rw (← c.parameters_of-p.ensures) at
    (set_rules c.args.set (omega (arith, c.if-set-gt-LAST.false))) in
    let numbers = accepted_two q a b accepted (sym c.in_ok-two_checked.ensures) in (
      operand kept.small (omega (arith, leb-true, eqb-true)) numbers.0,
      operand kept.small (omega (arith, leb-true, eqb-true)) numbers.1,
      omega (arith, leb-true, eqb-true),
      omega (arith, leb-true, eqb-true),
      omega (arith, kept.prime.above),
    )

pub returns-in_err-two_checked : goal.returns-in_err-two_checked
unfolding middle_left
returns-in_err-two_checked c =
    let whole = handed_call _ _ _ c.from_residual.result c.from_residual.ensures.1
    (decided (goal.at.returns-in_err-two_checked c).After-two_checked ∙ ap outcome c.in_err-two_checked.was) in
    record { answer = whole.0; left = whole.1 }

pub returns : goal.returns
unfolding middle_left
returns c =
    let whole = accepted_call _ _ (decided (goal.at.returns c).After-two_checked ∙ ap outcome c.in_ok-two_checked.was)
    (c.fill.ensures ∙ rw c.parameters_of-p.ensures) in record { answer = whole.0; left = whole.1 }
