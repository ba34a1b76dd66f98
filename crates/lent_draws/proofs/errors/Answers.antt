-- `lent_draws::errors` meets its contract, by its checks in order.
-- Assumes nothing.
use mathlib.Core.Path.{refl, sym, ap, ◌∙◌}
use native.Mathlib.Omega.{arith}
use lib.ListN.{length}
use Rattle.calls.specs.Outcome.{outcome}
use Rattle.calls.proofs.Outcome.{handed_on}
use Rattle.lent_draws.specs.Calls.{errors_answer, errors_left}
use Rattle.lent_draws.proofs.Answers.{Shaped, shaped, shape_refused, refused_both, accepted_both, errors_short, errors_enough}
use Rattle.lent_draws.proofs.errors.Goals.{In_ok-check_shape}
use Rattle.lent_draws.proofs.errors.Goals as goal

-- the set and the count of results are accepted
shape : (c : In_ok-check_shape) → Shaped c.args.set (length c.args.out.now)
shape c = shaped _ _ (sym c.in_ok-check_shape.ensures)

pub returns-in_err-check_shape : goal.returns-in_err-check_shape
unfolding errors_answer errors_left
returns-in_err-check_shape c =
    let whole = refused_both _ _ (handed_on _ c.from_residual.result c.from_residual.ensures.1)
    (shape_refused _ _ (sym c.in_err-check_shape.ensures) _) in
    record { answer = whole.0; result = whole.1 }

pub overflow_cast-result : goal.overflow_cast-result
overflow_cast-result c = omega (arith, (shape (goal.at.overflow_cast-result c).In_ok-check_shape).few)

pub returns-then-bytes-wanted : goal.returns-then-bytes-wanted
unfolding errors_left
returns-then-bytes-wanted c =
    let whole = refused_both _ _ refl (errors_short _ _ _ (shape (goal.at.returns-then-bytes-wanted c).In_ok-check_shape) c.if-bytes-wanted.true) in
    record { answer = whole.0; result = whole.1 }

pub returns : goal.returns
unfolding errors_left
returns c =
    let whole = accepted_both _ (errors_enough _ _ _ (shape (goal.at.returns c).In_ok-check_shape) c.if-bytes-wanted.false) c.fill_errors.ensures in
    record { answer = whole.0; result = whole.1 }
