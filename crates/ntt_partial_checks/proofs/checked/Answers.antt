-- `ntt_partial_checks::checked` meets its contract, by its tests in order.
-- Assumes nothing.
use mathlib.Core.Path.{◌≡◌, sym, ap, ◌∙◌}
use mathlib.Core.Bool.{not}
use Prim.Native.Nat.{◌*◌, ◌≤◌, ◌<◌}
use native.Mathlib.Omega.{arith}
use borrow.Author.Tests.{lt-ltb, le-ltb, eq-eqb, ne_eqb}
use lib.Dec.{eqb}
use lib.ListN.{length}
use Rattle.std.specs.Option.{ok_or}
use Rattle.calls.specs.declared.Refusal.TheVariants.{NoTransform}
use Rattle.std.proofs.lemmas.Option.{MatchOption-at_some, MatchOption-at_none}
use Rattle.calls.specs.Checks.{refuse_first, below}
use Rattle.calls.specs.Outcome.{accepted, refuse}
use Rattle.sets.specs.declared.Parameters.{Parameters}
use Rattle.sets.specs.Table.{last_set, set_of}
use Rattle.sets.proofs.Rules.{rules}
use Rattle.sets.proofs.Transforms.{size_most}
use Rattle.ntt_partial_checks.specs.Checks.{size_number_of, partial_answer_of}
use Rattle.ntt_partial_checks.proofs.Sizes.{size_found, handed_refusal}
use Rattle.ntt_partial_checks.proofs.checked.Goals.{Else-rows-m, Else-places-size, In_ok-i}
use Rattle.ntt_partial_checks.proofs.checked.Goals as goal

pub returns-then-set-lt1 : goal.returns-then-set-lt1
unfolding partial_answer_of
returns-then-set-lt1 c = rw (lt-ltb c.args.set 1 (omega arith))

pub returns-then-set-gt-LAST : goal.returns-then-set-gt-LAST
unfolding partial_answer_of
returns-then-set-gt-LAST c =
    let set = c.args.set in
    rw (le-ltb set 1 (omega arith), lt-ltb last_set set (omega arith))

pub returns-then-m-lt1 : goal.returns-then-m-lt1
unfolding partial_answer_of
returns-then-m-lt1 c =
    let args = c.args in
    rw (le-ltb args.set 1 (omega arith), le-ltb last_set args.set (omega arith), lt-ltb args.m 1 (omega arith))

pub returns-then-rows-m : goal.returns-then-rows-m
unfolding partial_answer_of
returns-then-rows-m c =
    let args = c.args in
    rw (
      le-ltb args.set 1 (omega arith),
      le-ltb last_set args.set (omega arith),
      le-ltb args.m 1 (omega arith),
      lt-ltb args.rows args.m (omega arith),
    )

pub size_number-requires : goal.size_number-requires
size_number-requires c = rw c.requires (rules c.args.set (omega arith))

-- set and rows are those of a transform: its size decides, then the lengths
by_size : (c : Else-rows-m) → let args = c.args in
    partial_answer_of args.set args.rows args.row args.m args.input.now args.places
    ≡ refuse (eqb (size_number_of (set_of args.set) (args.rows * args.row)) 0) 12 0
    (refuse (not (eqb (length args.input.now) (args.rows * args.row))) 2 0
    (refuse (not (eqb args.places (args.rows * args.row))) 2 0
    (refuse_first (below (set_of args.set).q) 0 0 args.input.now accepted)))
unfolding partial_answer_of
by_size c =
    let args = c.args in
    rw (
      le-ltb args.set 1 (omega arith),
      le-ltb last_set args.set (omega arith),
      le-ltb args.m 1 (omega arith),
      le-ltb args.rows args.m (omega arith),
    )

pub returns-in_err-i : goal.returns-in_err-i
returns-in_err-i c =
    let args = c.args in
    let made = c.in_err-i.ensures.value ∙ ap (λ o. ok_or o NoTransform) c.in_err-i.ensures.ok_part in
    let same : c.in_err-i.field-0.0 ≡ NoTransform = cc in
    let none = MatchOption-at_none _ _ c.in_err-i.ensures.ok_part c.size_number.ensures in
    let zero = sym (ap (λ (p : Parameters). size_number_of p (args.rows * args.row)) c.requires) ∙ none in
    let met = by_size (goal.at.returns-in_err-i c).Else-rows-m ∙ rw (eq-eqb (size_number_of (set_of args.set) (args.rows * args.row)) 0 zero) in
    handed_refusal _ _ c.from_residual.result c.from_residual.ensures.1 (rw same (sym met))

-- the number of the transform
number : (c : In_ok-i) → let args = c.args in (0 < c.in_ok-i.i) × (c.in_ok-i.i ≡ size_number_of (set_of args.set) (args.rows * args.row))
number c =
    let found = MatchOption-at_some _ _ _ c.in_ok-i.ensures.ok_part c.size_number.ensures in
    (found.0, found.1 ∙ ap (λ (p : Parameters). size_number_of p (c.args.rows * c.args.row)) c.requires)

-- there is one, and the lengths decide
by_lengths : (c : In_ok-i) → let args = c.args in
    partial_answer_of args.set args.rows args.row args.m args.input.now args.places
    ≡ refuse (not (eqb (length args.input.now) (args.rows * args.row))) 2 0
    (refuse (not (eqb args.places (args.rows * args.row))) 2 0
    (refuse_first (below (set_of args.set).q) 0 0 args.input.now accepted))
by_lengths c =
    let found = number c in
    by_size (goal.at.In_ok-i c).Else-rows-m
    ∙ rw (ne_eqb (size_number_of (set_of c.args.set) (c.args.rows * c.args.row)) 0 (λ e. omega (arith, found.0, found.1, e)))

-- the size is small
size : (c : In_ok-i) → let args = c.args in args.rows * args.row ≤ 3328
size c =
    let args = c.args in
    let found = number c in
    rw (← size_found (set_of args.set) (args.rows * args.row) (λ e. omega (arith, found.0, found.1, e)))
    (size_most (set_of args.set) (rules args.set (omega arith)) (size_number_of (set_of args.set) (args.rows * args.row)))

pub overflow_mul-size : goal.overflow_mul-size
overflow_mul-size c = record { fits = omega (arith, size c) }

pub returns-then-input-size : goal.returns-then-input-size
returns-then-input-size c =
    let args = c.args in
    rw (by_lengths (goal.at.returns-then-input-size c).In_ok-i, ne_eqb (length args.input.now) (args.rows * args.row) c.if-input-size.true)

pub returns-then-places-size : goal.returns-then-places-size
returns-then-places-size c =
    let args = c.args in
    rw (
      by_lengths (goal.at.returns-then-places-size c).In_ok-i,
      eq-eqb (length args.input.now) (args.rows * args.row) c.if-input-size.false,
      ne_eqb args.places (args.rows * args.row) c.if-places-size.true,
    )

-- the lengths fit: the numbers decide
by_numbers : (c : Else-places-size) → let args = c.args in
    partial_answer_of args.set args.rows args.row args.m args.input.now args.places ≡ refuse_first (below args.p.q) 0 0 args.input.now accepted
by_numbers c =
    let args = c.args in
    by_lengths (goal.at.Else-places-size c).In_ok-i
    ∙ rw (
      eq-eqb (length args.input.now) (args.rows * args.row) c.if-input-size.false,
      eq-eqb args.places (args.rows * args.row) c.if-places-size.false,
      c.requires,
    )

pub one_checked-requires : goal.one_checked-requires
one_checked-requires c = omega (arith, size (goal.at.one_checked-requires c).In_ok-i, c.if-input-size.false)

pub returns-in_err-one_checked : goal.returns-in_err-one_checked
returns-in_err-one_checked c =
    handed_refusal _ _ c.from_residual-in_err-one_checked.result c.from_residual-in_err-one_checked.ensures.1
    (c.in_err-one_checked.ensures ∙ sym (by_numbers (goal.at.returns-in_err-one_checked c).Else-places-size))

pub returns : goal.returns
returns c = ((number (goal.at.returns c).In_ok-i).1, c.in_ok-one_checked.ensures ∙ sym (by_numbers (goal.at.returns c).Else-places-size))
