-- The checks of the set and of the lengths come first; past them the numbers decide, and the work slice is cleared.
-- Assumes nothing.
use mathlib.Core.Path.{◌≡◌, refl, sym, ap, ◌∙◌}
use native.Mathlib.Omega.{arith}
use lib.ListN.{length}
use Rattle.calls.specs.Outcome.{outcome, accepted}
use Rattle.calls.proofs.Outcome.{handed_on}
use Rattle.sets.specs.declared.Parameters.{Parameters}
use Rattle.ntt_middle_checks.specs.Checks.{lengths_checked_of}
use Rattle.ntt_middle_checks.proofs.Laws.{lengths_are}
use Rattle.ntt_middle.proofs.Answers.{lengths_passed, refused_early, numbers_decide}
use Rattle.sets.proofs.Rules.{listed_of}
use Rattle.ntt_middle.proofs.middle_product.Goals.{In_ok-lengths_checked}
use Rattle.ntt_middle.proofs.middle_product.Goals as goal

-- the checks passed
passed : (c : In_ok-lengths_checked) → let args = c.args in
    lengths_checked_of args.set (length args.a.now) (length args.b.now) (length args.out.now) (length args.work.now) accepted ≡ accepted
passed c = sym c.in_ok-lengths_checked.ensures

pub lengths_checked-requires : goal.lengths_checked-requires
lengths_checked-requires c = ap (λ (p : Parameters). p.d3) c.parameters_of-p.ensures

pub returns-in_err-lengths_checked : goal.returns-in_err-lengths_checked
returns-in_err-lengths_checked c =
    let args = c.args in let whole = refused_early args.set args.a.now args.b.now args.out.now args.work.now
    c.in_err-lengths_checked.ensures refl in
    record { answer = handed_on _ c.from_residual.result c.from_residual.ensures.1 ∙ whole.0; left = whole.1.0; cleared = whole.1.1 }

pub checked-answer-requires : goal.checked-answer-requires
checked-answer-requires c =
    let args = c.args in
    let are = lengths_are args.set (length args.a.now) (length args.b.now) (length args.out.now) (length args.work.now)
    (passed (goal.at.checked-answer-requires c).In_ok-lengths_checked) in (
      listed_of args.set (omega (arith, are.0)) _ c.parameters_of-p.ensures,
      rw c.parameters_of-p.ensures
          (lengths_passed args.set (length args.a.now) (length args.b.now) (length args.out.now) (length args.work.now)
          (passed (goal.at.checked-answer-requires c).In_ok-lengths_checked)),
    )

pub returns : goal.returns
returns c =
    let args = c.args in
    let made = c.checked-answer in
    let left = rw c.parameters_of-p.ensures at made.ensures in
    let whole = numbers_decide args.set args.a.now args.b.now args.out.now args.work.now (passed (goal.at.returns c).In_ok-lengths_checked)
    left.answer left.left c.clear.ensures made.auto.work in record { answer = whole.0; left = whole.1.0; cleared = whole.1.1 }
