-- `ntt_partial::inverse` meets its contract: the checks decide, and only an accepted call writes.
-- Assumes nothing.
use mathlib.Core.Path.{◌≡◌, sym, ap, ◌∙◌}
use mathlib.Core.List.{List, ◌++◌}
use Prim.Native.Nat.{ℕ, ◌*◌, ◌-◌, ◌≤◌}
use native.Mathlib.Omega.{arith}
use lib.ListN.{length, take, drop}
use lib.Seq.{length-take-le}
use Rattle.calls.specs.Outcome.{accepted}
use Rattle.calls.proofs.Outcome.{accepted_call, handed_call}
use Rattle.sets.proofs.Rules.{listed_set}
use Rattle.ntt_partial_checks.specs.Checks.{partial_answer_of}
use Rattle.ntt_partial.specs.Calls.{partial_recovered, partial_inverse_left}
use Rattle.ntt_partial.proofs.Accepted.{Accepted, call_accepted, call_wide, wide_recovered, rows_few, rows_within}
use Rattle.ntt_partial.proofs.inverse.Goals.{In_ok-i}
use Rattle.ntt_partial.proofs.inverse.Goals as goal

pub checked-requires : goal.checked-requires
checked-requires c = c.parameters_of-p.ensures

-- the checks accept
checks : (c : In_ok-i)
    → let args = c.args in
    partial_answer_of args.set args.rows args.row args.m args.input.now (length args.out.now) ≡ accepted
checks c = sym c.in_ok-i.ensures.1

-- so the call is one that they accept
call : (c : In_ok-i)
    → let args = c.args in
    Accepted args.set args.rows args.row args.m args.input.now (length args.out.now)
call c = call_accepted _ _ _ _ _ _ (checks c)

pub returns-in_err-i : goal.returns-in_err-i
unfolding partial_inverse_left
returns-in_err-i c =
    let whole = handed_call _ _ _ c.from_residual.result c.from_residual.ensures.1 (sym c.in_err-i.ensures) in record { answer = whole.0; left = whole.1 }

-- the rows that are written
rows : (c : In_ok-i) → let args = c.args in args.m * args.row ≤ length args.out.now
rows c = let made = call (goal.at.In_ok-i c).In_ok-i in omega (arith, rows_within made, made.output)

-- where they end
end : (c : In_ok-i)
    → let args = c.args in args.m * args.row - 0 ≡ args.m * args.row
end c = omega arith

-- and how many numbers they have
lent : (c : In_ok-i)
    → let args = c.args in
    length (take (args.m * args.row - 0) args.out.now) ≡ args.m * args.row
lent c =
    let args = c.args in
    rw (end c) (length-take-le (args.m * args.row) args.out.now (rows c))

pub overflow_mul-end : goal.overflow_mul-end
overflow_mul-end c = let made = call (goal.at.overflow_mul-end c).In_ok-i in record { fits = omega (arith, rows_within made, rows_few made) }

pub slice_bounds-inverse_wide-end : goal.slice_bounds-inverse_wide-end
slice_bounds-inverse_wide-end c = rows (goal.at.slice_bounds-inverse_wide-end c).In_ok-i

pub inverse_wide-requires : goal.inverse_wide-requires
inverse_wide-requires c =
    let made = call (goal.at.inverse_wide-requires c).In_ok-i in
    let wide = c.if-row-eq256.true in
    let size = lent (goal.at.inverse_wide-requires c).In_ok-i ∙ ap (λ (n : ℕ). c.args.m * n) wide in
    rw (c.in_ok-i.ensures.0, c.parameters_of-p.ensures) (listed_set _ made.low, call_wide made wide, size)

pub returns-then-row-eq256 : goal.returns-then-row-eq256
unfolding partial_inverse_left
returns-then-row-eq256 c =
    let args = c.args in
    let made = call (goal.at.returns-then-row-eq256 c).In_ok-i in
    let recovered = rw (c.in_ok-i.ensures.0, c.parameters_of-p.ensures) at c.inverse_wide.ensures in
    let whole = recovered ∙ wide_recovered made c.if-row-eq256.true in
    let whole = accepted_call _ _ (checks (goal.at.returns-then-row-eq256 c).In_ok-i) (rw (end (goal.at.returns-then-row-eq256 c).In_ok-i)
    (ap (λ (l : List ℕ). l ++ drop (args.m * args.row) args.out.now) whole)) in record { answer = whole.0; left = whole.1 }

pub slice_bounds-inverse_plain-end : goal.slice_bounds-inverse_plain-end
slice_bounds-inverse_plain-end c = rows (goal.at.slice_bounds-inverse_plain-end c).In_ok-i

pub inverse_plain-requires : goal.inverse_plain-requires
inverse_plain-requires c =
    let made = call (goal.at.inverse_plain-requires c).In_ok-i in
    rw (c.in_ok-i.ensures.0, c.parameters_of-p.ensures) (
      listed_set _ made.low,
      made.split,
      lent (goal.at.inverse_plain-requires c).In_ok-i,
    )

pub returns : goal.returns
unfolding partial_inverse_left partial_recovered
returns c =
    let args = c.args in
    let recovered = rw (c.in_ok-i.ensures.0, c.parameters_of-p.ensures) at c.inverse_plain.ensures in
    let whole = accepted_call _ _ (checks (goal.at.returns c).In_ok-i) (rw (end (goal.at.returns c).In_ok-i)
    (ap (λ (l : List ℕ). l ++ drop (args.m * args.row) args.out.now) recovered)) in record { answer = whole.0; left = whole.1 }
