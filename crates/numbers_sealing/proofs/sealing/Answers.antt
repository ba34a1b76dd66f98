-- `numbers_sealing::sealing` meets its contract: the checks come in the order of the definition, and only an accepted call writes.
-- Assumes nothing.
use mathlib.Core.Path.{◌≡◌, sym, ap, ◌∙◌}
use mathlib.Core.Bool.{true}
use native.Mathlib.Nat.{mul-le-mul}
use native.Mathlib.Omega.{arith}
use lib.ListN.{length}
use borrow.Author.Tests.{eqb-true}
use Rattle.calls.specs.Outcome.{outcome, accepted}
use Rattle.calls.specs.Checks.{all_of}
use Rattle.calls.proofs.Outcome.{leaves_accepted, leaves_refused, handed_on}
use Rattle.calls.proofs.Checks.{all_of_each}
use Rattle.sets.specs.Rules.{Rules}
use Rattle.sets.proofs.Rules.{rules as set_rules}
use Rattle.middle.proofs.Chained.{accepted_one, accepted_two}
use Rattle.middle.proofs.OpenCall.{opening_set, opening_lengths}
use Rattle.numbers.specs.Calls.{sealing_shape, sealing_answer, first_part_left, second_part_left}
use Rattle.numbers.proofs.MultiplierLaws.{accepted_multipliers}
use Rattle.sets.specs.Derived.{error_count_of}
use Rattle.sets.proofs.Counts.{errors_most}
use Rattle.numbers.proofs.SealingLaws.{sealing_numbers}
use Rattle.numbers_sealing.proofs.sealing.Goals.{After-numbers_checked, Else-not-lengths_fit}
use Rattle.numbers_sealing.proofs.sealing.Goals as goal

pub returns-then-set-gt-LAST : goal.returns-then-set-gt-LAST
unfolding sealing_answer first_part_left second_part_left
returns-then-set-gt-LAST c =
    let no = opening_set _ _ 2 _ c.if-set-gt-LAST.true in record { answer = sym no; first = sym (leaves_refused _ _ no); second = sym (leaves_refused _ _ no) }

pub lengths_fit-requires : goal.lengths_fit-requires
lengths_fit-requires c = rw c.parameters_of-p.ensures (set_rules c.args.set (omega (arith, c.if-set-gt-LAST.false)))

pub returns-then-not-lengths_fit : goal.returns-then-not-lengths_fit
unfolding sealing_answer first_part_left second_part_left
returns-then-not-lengths_fit c =
    let other = rw c.parameters_of-p.ensures at (sym c.lengths_fit.ensures ∙ c.if-not-lengths_fit.true) in
    let no = opening_lengths _ _ 2 _ c.if-set-gt-LAST.false other in
    record { answer = sym no; first = sym (leaves_refused _ _ no); second = sym (leaves_refused _ _ no) }

-- where the lengths fit
lengths : (c : Else-not-lengths_fit)
    → let args = c.args in
    let p = c.parameters_of-p.result in
    all_of (sealing_shape p (length args.a.now) (length args.b.now) (length args.r.now) (length args.message.now)
    (length args.c1.now) (length args.c2.now)) ≡ true
lengths c = sym c.lengths_fit.ensures ∙ c.if-not-lengths_fit.false

-- the set's numbers keep the rules
kept : (c : Else-not-lengths_fit) → Rules c.parameters_of-p.result
kept c =
    rw (← c.parameters_of-p.ensures) at (set_rules c.args.set (omega (arith, c.if-set-gt-LAST.false)))

-- the numbers decide
decided : (c : After-numbers_checked)
    → let args = c.args in
    sealing_answer args.set args.a.now args.b.now args.r.now args.message.now (length args.c1.now) (length args.c2.now)
    ≡ outcome c.numbers_checked.result
decided c =
    let args = c.args in
    let known = c.parameters_of-p in
    sealing_numbers args.set known.result args.a.now args.b.now args.r.now args.message.now (length args.c1.now)
    (length args.c2.now) known.ensures c.if-set-gt-LAST.false (lengths (goal.at.After-numbers_checked c).Else-not-lengths_fit)
    ∙ sym c.numbers_checked.ensures

pub numbers_checked-requires : goal.numbers_checked-requires
numbers_checked-requires c =
    let each = all_of_each _ (lengths c) in
    let p = c.parameters_of-p.result in
    let keeps = kept c in
    let public = mul-le-mul {n₁ = p.t} {m₁ = p.n} {n₂ = 10} {m₂ = 2048} keeps.most_t keeps.most_n in
    (keeps, omega (arith, eqb-true, keeps.most_d, public, errors_most p keeps, keeps.most_multipliers))

pub fill_both-requires : goal.fill_both-requires
unfolding error_count_of
fill_both-requires c =
    let args = c.args in
    let p = c.parameters_of-p.result in
    let each = all_of_each _ (lengths (goal.at.fill_both-requires c).Else-not-lengths_fit) in
    let keeps = kept (goal.at.fill_both-requires c).Else-not-lengths_fit in
    let passed = sym c.in_ok-numbers_checked.ensures in
    let numbers = accepted_two p.q args.a.now args.b.now _ passed in
    let multipliers = accepted_multipliers p keeps _ args.r.now _ numbers.2 in (
      keeps,
      record {
        public = record { size = eqb-true _ _ each.0; each = numbers.0 };
        key = record { size = eqb-true _ _ each.1.0; each = numbers.1 };
        multipliers_length = eqb-true _ _ each.1.1.0;
        multipliers_small = multipliers.0;
        message_length = eqb-true _ _ each.1.1.1.0;
        message_bits = (accepted_one 2 _ args.message.now accepted multipliers.1).0;
      },
      eqb-true _ _ each.1.1.1.1.0,
      eqb-true _ _ each.1.1.1.1.1.0,
    )

pub returns-in_err-numbers_checked : goal.returns-in_err-numbers_checked
unfolding first_part_left second_part_left
returns-in_err-numbers_checked c =
    let no = decided (goal.at.returns-in_err-numbers_checked c).After-numbers_checked ∙ ap outcome c.in_err-numbers_checked.was in
    record {
      answer = handed_on _ c.from_residual.result c.from_residual.ensures.1 ∙ sym no;
      first = sym (leaves_refused _ _ no);
      second = sym (leaves_refused _ _ no);
    }

pub returns : goal.returns
unfolding first_part_left second_part_left
returns c =
    let yes = decided (goal.at.returns c).After-numbers_checked ∙ ap outcome c.in_ok-numbers_checked.was in
    let same = c.parameters_of-p.ensures in
    let written = c.fill_both.ensures in
    record { answer = sym yes; first = written.0 ∙ rw same (sym (leaves_accepted _ _ yes)); second = written.1 ∙ rw same (sym (leaves_accepted _ _ yes)) }
