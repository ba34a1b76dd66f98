-- `numbers_reading::reading` meets its contract: the checks come in the order of the definition, and only an accepted call writes.
-- Assumes nothing.
use mathlib.Core.Path.{◌≡◌, sym, ap, ◌∙◌}
use mathlib.Core.Bool.{true}
use lib.ListN.{length}
use native.Mathlib.Omega.{arith}
use borrow.Author.Tests.{eqb-true}
use Rattle.calls.specs.Outcome.{outcome, accepted}
use Rattle.calls.specs.Checks.{all_of}
use Rattle.calls.proofs.Outcome.{refused_call, accepted_call, handed_call}
use Rattle.calls.proofs.Checks.{all_of_each}
use Rattle.sets.specs.Rules.{Rules}
use Rattle.sets.proofs.Rules.{rules as set_rules}
use Rattle.numbers.specs.Calls.{reading_shape, reading_answer, reading_left}
use Rattle.middle.proofs.OpenCall.{opening_set, opening_lengths, operand}
use Rattle.numbers.proofs.ReadingLaws.{accepted_three, reading_numbers}
use Rattle.numbers_reading.proofs.reading.Goals.{After-numbers_checked, Else-not-lengths_fit}
use Rattle.numbers_reading.proofs.reading.Goals as goal

pub returns-then-set-gt-LAST : goal.returns-then-set-gt-LAST
unfolding reading_answer reading_left
returns-then-set-gt-LAST c =
    let whole = refused_call _ _ (opening_set _ _ 2 _ c.if-set-gt-LAST.true) in record { answer = whole.0; left = whole.1 }

pub lengths_fit-requires : goal.lengths_fit-requires
lengths_fit-requires c = rw c.parameters_of-p.ensures (set_rules c.args.set (omega (arith, c.if-set-gt-LAST.false)))

pub returns-then-not-lengths_fit : goal.returns-then-not-lengths_fit
unfolding reading_answer reading_left
returns-then-not-lengths_fit c =
    let whole = refused_call _ _ (opening_lengths _ _ 2 _ c.if-set-gt-LAST.false
    (rw c.parameters_of-p.ensures at (sym c.lengths_fit.ensures ∙ c.if-not-lengths_fit.true))) in record { answer = whole.0; left = whole.1 }

-- where the lengths fit
lengths : (c : Else-not-lengths_fit)
    → let args = c.args in
    let p = c.parameters_of-p.result in
    all_of (reading_shape p (length args.c1.now) (length args.c2.now) (length args.s.now) (length args.bits.now)) ≡ true
lengths c = sym c.lengths_fit.ensures ∙ c.if-not-lengths_fit.false

-- the set's numbers keep the rules
kept : (c : Else-not-lengths_fit) → Rules c.parameters_of-p.result
kept c =
    rw (← c.parameters_of-p.ensures) at (set_rules c.args.set (omega (arith, c.if-set-gt-LAST.false)))

-- the numbers decide
decided : (c : After-numbers_checked)
    → let args = c.args in
    reading_answer args.set args.c1.now args.c2.now args.s.now (length args.bits.now) ≡ outcome c.numbers_checked.result
decided c =
    let args = c.args in
    let known = c.parameters_of-p in
    reading_numbers args.set known.result args.c1.now args.c2.now args.s.now (length args.bits.now) known.ensures
    c.if-set-gt-LAST.false (lengths (goal.at.After-numbers_checked c).Else-not-lengths_fit)
    ∙ sym c.numbers_checked.ensures

pub numbers_checked-requires : goal.numbers_checked-requires
numbers_checked-requires c =
    let each = all_of_each _ (lengths c) in
    let keeps = kept c in
    omega (arith, eqb-true, keeps.most_n, keeps.most_k, keeps.most_d)

pub fill-requires : goal.fill-requires
fill-requires c =
    let args = c.args in
    let known = c.parameters_of-p in
    let each = all_of_each _ (lengths (goal.at.fill-requires c).Else-not-lengths_fit) in
    let within = c.if-set-gt-LAST.false in
    let keeps = kept (goal.at.fill-requires c).Else-not-lengths_fit in
    let passed = sym c.in_ok-numbers_checked.ensures in
    let numbers = accepted_three known.result.q args.c1.now args.c2.now args.s.now accepted passed in (
      omega (arith, within),
      known.ensures,
      record {
        first = operand keeps.small (omega (arith, eqb-true, keeps.most_n, keeps.most_k)) numbers.0;
        secret = operand keeps.small (omega (arith, eqb-true, keeps.most_n, keeps.most_k, keeps.most_d)) numbers.2;
        first_length = omega (arith, eqb-true);
        second_length = omega (arith, eqb-true);
        second_residues = numbers.1;
      },
      omega (arith, eqb-true),
    )

pub returns-in_err-numbers_checked : goal.returns-in_err-numbers_checked
unfolding reading_left
returns-in_err-numbers_checked c =
    let whole = handed_call _ _ _ c.from_residual.result c.from_residual.ensures.1
    (decided (goal.at.returns-in_err-numbers_checked c).After-numbers_checked ∙ ap outcome c.in_err-numbers_checked.was) in
    record { answer = whole.0; left = whole.1 }

pub returns : goal.returns
unfolding reading_left
returns c =
    let whole = accepted_call _ _ (decided (goal.at.returns c).After-numbers_checked ∙ ap outcome c.in_ok-numbers_checked.was)
    (c.fill.ensures ∙ rw c.parameters_of-p.ensures) in record { answer = whole.0; left = whole.1 }
