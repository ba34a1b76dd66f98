-- `scheme_checks::round_trip_checked` meets its contract: the set is looked at before the lengths, which are the set's.
-- Assumes nothing.
use mathlib.Core.Path.{◌≡◌, sym, ap, ◌∙◌}
use Rattle.calls.specs.Outcome.{outcome}
use Rattle.scheme_checks.proofs.Laws.{handed_refusal}
use Rattle.sets.specs.Derived.{is_of}
use Rattle.scheme.specs.Answers.{checks, round_trip_checks}
use Rattle.scheme.proofs.Answers.{Own, set_range, set_refuses, lengths_decide}
use Rattle.scheme_checks.proofs.round_trip_checked.Goals.{After-lengths_checked, In_ok-p}
use Rattle.scheme_checks.proofs.round_trip_checked.Goals as goal

-- the set is one of the scheme's
own : (c : In_ok-p) → Own (is_of c.args.number) c.args.set
own c = set_range _ _ (sym c.in_ok-p.ensures.1)

pub returns-in_err-p : goal.returns-in_err-p
unfolding checks round_trip_checks
returns-in_err-p c = handed_refusal c.args.set _ c.from_residual.result c.from_residual.ensures.1 (sym (set_refuses _ _ _ (sym c.in_err-p.ensures)))

-- the lengths decide
decided : (c : After-lengths_checked) → let args = c.args in
    outcome c.lengths_checked.result
    ≡ round_trip_checks (is_of args.number) args.set args.seed args.message args.other args.given args.public args.secret args.ciphertext args.work
unfolding round_trip_checks
decided c =
    c.lengths_checked.ensures
    ∙ rw (
      c.work_length.ensures,
      c.ciphertext_bytes.ensures,
      c.secret_key_bytes.ensures,
      c.public_key_bytes.ensures,
      c.in_ok-p.ensures.0,
    )
    (sym (lengths_decide _ _ _ _ _ (own (goal.at.After-lengths_checked c).In_ok-p)))

pub returns-in_err-lengths_checked : goal.returns-in_err-lengths_checked
returns-in_err-lengths_checked c =
    handed_refusal c.args.set _ c.from_residual-in_err-lengths_checked.result c.from_residual-in_err-lengths_checked.ensures.1
    (sym (ap outcome c.in_err-lengths_checked.was) ∙ decided (goal.at.returns-in_err-lengths_checked c).After-lengths_checked)

pub returns : goal.returns
returns c = (c.in_ok-p.ensures.0, sym (ap outcome c.in_ok-lengths_checked.was) ∙ decided (goal.at.returns c).After-lengths_checked)
