-- The multipliers stand after the errors.
-- Assumes nothing.
use mathlib.Core.Path.{◌≡◌, ◌∙◌}
use Prim.Native.Nat.{ℕ, ◌+◌, ◌-◌, ◌≤◌}
use native.Mathlib.Omega.{arith}
use lib.ListN.{length, take, drop}
use Rattle.sets.specs.Derived.{multiplier_count_of, error_count_of}
use Rattle.sets.proofs.Rules.{listed_rules}
use Rattle.calls.proofs.Parts.{part_long}
use Rattle.sheet_noise.proofs.Held.{work_room, multipliers_written}
use Rattle.sheet_noise.proofs.draw.Goals.{After-draw_errors, After-multiplier_count}
use Rattle.sheet_noise.proofs.draw.Goals as goal

-- the counts of errors and of multipliers
abbrev errors : After-multiplier_count → ℕ
errors c = c.error_count-start.result

abbrev multipliers : After-multiplier_count → ℕ
multipliers c = c.multiplier_count.result

pub error_count-start-requires : goal.error_count-start-requires
error_count-start-requires c = listed_rules c.args.p c.requires.1

pub multiplier_count-requires : goal.multiplier_count-requires
multiplier_count-requires c = listed_rules c.args.p c.requires.1

-- both counts of the set
start_is : (c : After-multiplier_count) → errors c ≡ error_count_of c.args.p
start_is c = c.error_count-start.ensures.0

count_is : (c : After-multiplier_count) → multipliers c ≡ multiplier_count_of c.args.p
count_is c = c.multiplier_count.ensures

-- both fit
fits : (c : After-multiplier_count) → errors c + multipliers c ≤ length c.args.work.now
fits c =
    omega (arith, (work_room c.args.p c.requires.0 c.requires.1).all_in, start_is c, count_is c, c.requires.3)

few : (c : After-multiplier_count) → errors c + multipliers c ≤ 18432
few c =
    omega (arith, (work_room c.args.p c.requires.0 c.requires.1).few, start_is c, count_is c)

pub overflow_add-end : goal.overflow_add-end
overflow_add-end c = omega (arith, few c)

pub offset_bounds-work-start : goal.offset_bounds-work-start
offset_bounds-work-start c = omega (arith, few (goal.at.offset_bounds-work-start c).After-multiplier_count)

pub slice_bounds-multipliers_from-end-2 : goal.slice_bounds-multipliers_from-end-2
slice_bounds-multipliers_from-end-2 c = omega (arith, c.draw_errors.auto.work, fits (goal.at.slice_bounds-multipliers_from-end-2 c).After-multiplier_count)

-- the part of the multipliers
part_size : (c : After-draw_errors) → let from = errors (goal.at.After-draw_errors c).After-multiplier_count in
    let count = multipliers (goal.at.After-draw_errors c).After-multiplier_count in
    length (take (from + count - from) (drop from c.draw_errors.new.work)) ≡ count
part_size c =
    let from = errors (goal.at.After-draw_errors c).After-multiplier_count in
    let count = multipliers (goal.at.After-draw_errors c).After-multiplier_count in
    let left : from + count - from ≡ count = omega arith in
    part_long c.draw_errors.new.work from (from + count) (omega (arith, c.draw_errors.auto.work, fits (goal.at.After-draw_errors c).After-multiplier_count))
    ∙ left

pub multipliers_from-requires : goal.multipliers_from-requires
multipliers_from-requires c = (
  listed_rules c.args.p c.requires.1,
  c.requires.0,
  omega (arith, c.told-sealing),
  part_size (goal.at.multipliers_from-requires c).After-draw_errors ∙ c.multiplier_count.ensures,
)

pub returns : goal.returns
returns c =
    let made = c.multipliers_from in
    let sealing = c.args.sealing.now in
    multipliers_written c.args.p c.args.secret.now sealing _ made.new.out (errors (goal.at.returns c).After-multiplier_count)
    (errors (goal.at.returns c).After-multiplier_count + multipliers (goal.at.returns c).After-multiplier_count)
    (start_is (goal.at.returns c).After-multiplier_count) (omega (arith, count_is (goal.at.returns c).After-multiplier_count))
    (made.auto.out ∙ part_size (goal.at.returns c).After-draw_errors ∙ count_is (goal.at.returns c).After-multiplier_count)
    (omega (arith, c.draw_errors.auto.work, fits (goal.at.returns c).After-multiplier_count)) c.draw_errors.ensures
    made.ensures
