-- `lent_draws::multipliers` meets its contract, by its checks in order.
-- Assumes nothing.
use mathlib.Core.Path.{◌≡◌, refl, sym, ap, ◌∙◌}
use Prim.Native.Nat.{ℕ, ◌+◌, ◌≤◌, ◌<◌}
use native.Mathlib.Omega.{arith}
use mathlib.Core.List.{List}
use lib.IntN.{ℤ}
use lib.ListN.{length}
use Rattle.calls.specs.Outcome.{Outcome, outcome, refused}
use Rattle.sets.specs.declared.Parameters.{Parameters}
use Rattle.sets.specs.Derived.{multiplier_count_of}
use Rattle.sets.specs.Rules.{Rules, ByteRules}
use Rattle.sets.proofs.Rules.{rules as set_rules, byte_rules}
use Rattle.draws.specs.Small.{multiplier_at_of}
use Rattle.draws.specs.Calls.{in_turn}
use Rattle.calls.proofs.Outcome.{handed_on}
use Rattle.lent_draws.specs.Calls.{multipliers_answer, multipliers_left}
use Rattle.lent_draws.proofs.Answers.{Shaped, shaped, shape_refused, refused_both, accepted_both}
use Rattle.lent_draws.proofs.Answers.{multipliers_none, multipliers_past, multipliers_short, multipliers_enough}
use Rattle.lent_draws.proofs.multipliers.Goals.{After-parameters_of-p, Else-count-wanted-2, Else-wanted-eq0, In_ok-check_shape, Start}
use Rattle.lent_draws.proofs.multipliers.Goals as goal

-- how many results are wanted, and what the call answers
abbrev wanted : Start → ℕ
wanted s = length s.args.out.now

abbrev answered : Start → Outcome
answered s = multipliers_answer s.args.set s.args.bytes.now s.args.first (wanted s)

-- the set and the count of results are accepted
shape : (c : In_ok-check_shape) → Shaped c.args.set (wanted (goal.at.In_ok-check_shape c).Start)
shape c = shaped _ _ (sym c.in_ok-check_shape.ensures)

-- some results are wanted
some : (c : Else-wanted-eq0) → 0 < wanted (goal.at.Else-wanted-eq0 c).Start
some c = omega (arith, c.if-wanted-eq0.false)

-- the set keeps its rules
ruled : (c : After-parameters_of-p) → Rules c.parameters_of-p.result × ByteRules c.parameters_of-p.result
ruled c =
    let s = shape (goal.at.After-parameters_of-p c).In_ok-check_shape in
    rw c.parameters_of-p.ensures (set_rules _ s.most, byte_rules _ s.some s.most)

-- a position past the last
past : (c : After-parameters_of-p) → multiplier_count_of c.parameters_of-p.result < c.args.first + wanted (goal.at.After-parameters_of-p c).Start →
    answered (goal.at.After-parameters_of-p c).Start ≡ refused 2 0
past c h =
    multipliers_past _ _ _ (shape (goal.at.After-parameters_of-p c).In_ok-check_shape) _ c.parameters_of-p.ensures _
    (some (goal.at.After-parameters_of-p c).Else-wanted-eq0) h

-- no position is past the last
within : (c : Else-count-wanted-2) → c.args.first + wanted (goal.at.Else-count-wanted-2 c).Start ≤ multiplier_count_of c.parameters_of-p.result
within c = omega (arith, c.multiplier_count-count.ensures)

pub returns-in_err-check_shape : goal.returns-in_err-check_shape
unfolding multipliers_answer multipliers_left
returns-in_err-check_shape c =
    let whole = refused_both _ _ (handed_on _ c.from_residual.result c.from_residual.ensures.1)
    (shape_refused _ _ (sym c.in_err-check_shape.ensures) _) in
    record { answer = whole.0; result = whole.1 }

pub returns-then-wanted-eq0 : goal.returns-then-wanted-eq0
returns-then-wanted-eq0 c =
    let whole = multipliers_none _ _ _ _ (shape (goal.at.returns-then-wanted-eq0 c).In_ok-check_shape) c.if-wanted-eq0.true in
    record { answer = whole.0; result = whole.1 }

pub multiplier_count-count-requires : goal.multiplier_count-count-requires
multiplier_count-count-requires c = (ruled c).0

pub returns-then-count-wanted : goal.returns-then-count-wanted
unfolding multipliers_left
returns-then-count-wanted c =
    let whole = refused_both _ _ refl (past (goal.at.returns-then-count-wanted c).After-parameters_of-p (omega (arith, c.multiplier_count-count.ensures))) in
    record { answer = whole.0; result = whole.1 }

pub returns-then-count-wanted-2 : goal.returns-then-count-wanted-2
unfolding multipliers_left
returns-then-count-wanted-2 c =
    let whole = refused_both _ _ refl (past (goal.at.returns-then-count-wanted-2 c).After-parameters_of-p (omega (arith, c.multiplier_count-count.ensures))) in
    record { answer = whole.0; result = whole.1 }

pub lent_results-ready-requires : goal.lent_results-ready-requires
lent_results-ready-requires c =
    ((ruled (goal.at.lent_results-ready-requires c).After-parameters_of-p).0, (ruled (goal.at.lent_results-ready-requires c).After-parameters_of-p).1, within c)

pub overflow_cast-result : goal.overflow_cast-result
overflow_cast-result c = omega (arith, (shape (goal.at.overflow_cast-result c).In_ok-check_shape).few)

pub returns-then-ready-wanted : goal.returns-then-ready-wanted
unfolding multipliers_left
returns-then-ready-wanted c =
    let counted = c.lent_results-ready.ensures in let whole = refused_both _ _ (ap (refused 4) counted)
    (multipliers_short _ _ _ (shape (goal.at.returns-then-ready-wanted c).In_ok-check_shape) _ c.parameters_of-p.ensures _
    (some (goal.at.returns-then-ready-wanted c).Else-wanted-eq0) (within (goal.at.returns-then-ready-wanted c).Else-count-wanted-2)
    (omega (arith, c.if-ready-wanted.true))) in record { answer = whole.0; result = whole.1 }

pub fill_multipliers-requires : goal.fill_multipliers-requires
fill_multipliers-requires c = (
  (ruled (goal.at.fill_multipliers-requires c).After-parameters_of-p).0,
  (ruled (goal.at.fill_multipliers-requires c).After-parameters_of-p).1,
  within (goal.at.fill_multipliers-requires c).Else-count-wanted-2,
  omega (arith, c.if-ready-wanted.false),
)

pub returns : goal.returns
unfolding multipliers_left
returns c =
    let drawn : Parameters → List ℤ = λ p. in_turn (multiplier_at_of p c.args.bytes.now) c.args.first (wanted (goal.at.returns c).Start) in
    let whole = accepted_both _
    (multipliers_enough _ _ _ (shape (goal.at.returns c).In_ok-check_shape) _ c.parameters_of-p.ensures _ (some (goal.at.returns c).Else-wanted-eq0)
    (within (goal.at.returns c).Else-count-wanted-2)
    (omega (arith, c.if-ready-wanted.false)))
    (c.fill_multipliers.ensures ∙ ap drawn c.parameters_of-p.ensures) in record { answer = whole.0; result = whole.1 }
