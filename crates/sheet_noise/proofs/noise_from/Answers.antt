-- The noise of the residues drawn is that of the whole numbers drawn.
-- Assumes nothing.
use mathlib.Core.Path.{◌≡◌, sym, subst, ◌∙◌}
use mathlib.Core.List.{List, map}
use Prim.Native.Nat.{ℕ, ◌+◌, ◌-◌, ◌≤◌, ◌<◌}
use native.Mathlib.Omega.{arith}
use lib.ListN.{length, take, drop}
use Rattle.maths.specs.Integer.{residue}
use Rattle.sets.specs.Derived.{multiplier_count_of, error_count_of}
use Rattle.samplers.specs.Seeded.{multipliers_drawn}
use Rattle.scheme.specs.Encryption.{errors}
use Rattle.sets.proofs.Rules.{listed_rules}
use Rattle.calls.proofs.Parts.{front_length, part_long}
use Rattle.sheet_noise.specs.Centred.{Residues}
use Rattle.sheet_noise.proofs.Held.{work_room, errors_part, multipliers_part}
use Rattle.sheet_noise.proofs.Drawn.{map_residues, noise_drawn}
use Rattle.sheet_noise.proofs.noise_from.Goals.{After-draw, After-multiplier_count}
use Rattle.sheet_noise.proofs.noise_from.Goals as goal

-- the counts of errors and of multipliers
abbrev error_total : After-multiplier_count → ℕ
error_total c = c.error_count-start.result

abbrev multiplier_total : After-multiplier_count → ℕ
multiplier_total c = c.multiplier_count.result

-- the two parts lent
abbrev lent_multipliers : After-draw → List ℕ
lent_multipliers c =
    let from = error_total (goal.at.After-draw c).After-multiplier_count in
    take (from + multiplier_total (goal.at.After-draw c).After-multiplier_count - from) (drop from c.draw.new.work)

abbrev lent_errors : After-draw → List ℕ
lent_errors c = take (error_total (goal.at.After-draw c).After-multiplier_count - 0) (drop 0 c.draw.new.work)

pub error_count-start-requires : goal.error_count-start-requires
error_count-start-requires c = listed_rules c.args.p c.requires.1

pub multiplier_count-requires : goal.multiplier_count-requires
multiplier_count-requires c = listed_rules c.args.p c.requires.1

-- both counts of the set
start_is : (c : After-multiplier_count) → error_total c ≡ error_count_of c.args.p
start_is c = c.error_count-start.ensures.0

count_is : (c : After-multiplier_count) → multiplier_total c ≡ multiplier_count_of c.args.p
count_is c = c.multiplier_count.ensures

-- both fit
fits : (c : After-multiplier_count) → error_total c + multiplier_total c ≤ length c.args.work.now
fits c =
    omega (arith, (work_room c.args.p c.requires.0 c.requires.1).all_in, start_is c, count_is c, c.requires.6)

few : (c : After-multiplier_count) → error_total c + multiplier_total c ≤ 18432
few c =
    omega (arith, (work_room c.args.p c.requires.0 c.requires.1).few, start_is c, count_is c)

pub overflow_add-end : goal.overflow_add-end
overflow_add-end c = omega (arith, few c)

pub offset_bounds-work-start : goal.offset_bounds-work-start
offset_bounds-work-start c = omega (arith, few (goal.at.offset_bounds-work-start c).After-multiplier_count)

pub slice_bounds-fill-end : goal.slice_bounds-fill-end
slice_bounds-fill-end c = omega (arith, c.draw.auto.work, fits (goal.at.slice_bounds-fill-end c).After-multiplier_count)

pub slice_bounds-fill-end-2 : goal.slice_bounds-fill-end-2
slice_bounds-fill-end-2 c = omega (arith, c.draw.auto.work, fits (goal.at.slice_bounds-fill-end-2 c).After-multiplier_count)

-- the parts are what was drawn
multipliers_are : (c : After-draw) → let p = c.args.p in
    lent_multipliers c ≡ map (residue p.q) (multipliers_drawn p c.args.sealing.now)
multipliers_are c =
    multipliers_part c.args.p c.args.secret.now c.args.sealing.now _ c.draw.ensures (error_total (goal.at.After-draw c).After-multiplier_count)
    (start_is (goal.at.After-draw c).After-multiplier_count) (multiplier_total (goal.at.After-draw c).After-multiplier_count)
    (count_is (goal.at.After-draw c).After-multiplier_count)

errors_are : (c : After-draw) → let p = c.args.p in
    lent_errors c ≡ map (residue p.q) (errors p c.args.secret.now)
errors_are c =
    errors_part c.args.p c.args.secret.now c.args.sealing.now _ c.draw.ensures (error_total (goal.at.After-draw c).After-multiplier_count)
    (start_is (goal.at.After-draw c).After-multiplier_count)

-- their lengths
multipliers_size : (c : After-draw) → length (lent_multipliers c) ≡ multiplier_total (goal.at.After-draw c).After-multiplier_count
multipliers_size c =
    let from = error_total (goal.at.After-draw c).After-multiplier_count in
    let count = multiplier_total (goal.at.After-draw c).After-multiplier_count in
    let left : from + count - from ≡ count = omega arith in
    part_long c.draw.new.work from (from + count) (omega (arith, c.draw.auto.work, fits (goal.at.After-draw c).After-multiplier_count)) ∙ left

errors_size : (c : After-draw) → length (lent_errors c) ≡ error_total (goal.at.After-draw c).After-multiplier_count
errors_size c =
    front_length c.draw.new.work (error_total (goal.at.After-draw c).After-multiplier_count)
    (omega (arith, c.draw.auto.work, fits (goal.at.After-draw c).After-multiplier_count))

pub fill-requires : goal.fill-requires
fill-requires c =
    let p = c.args.p in
    let pre = c.requires in
    let kept = listed_rules p pre.1 in
    let positive : 0 < p.q = omega (arith, kept.prime.above) in
    let drawn_multipliers = map_residues p.q (multipliers_drawn p c.args.sealing.now) positive in
    let drawn-errors = map_residues p.q (errors p c.args.secret.now) positive in (
      kept,
      pre.0,
      multipliers_size (goal.at.fill-requires c).After-draw ∙ c.multiplier_count.ensures,
      errors_size (goal.at.fill-requires c).After-draw ∙ c.error_count-start.ensures.0,
      subst (Residues p.q) (sym (multipliers_are (goal.at.fill-requires c).After-draw)) drawn_multipliers,
      subst (Residues p.q) (sym (errors_are (goal.at.fill-requires c).After-draw)) drawn-errors,
      pre.3,
      pre.4,
      pre.5,
    )

pub returns : goal.returns
returns c =
    let before = c.args.before.now in
    c.fill.ensures
    ∙ noise_drawn c.args.p c.requires.0 c.requires.1 c.args.secret.now c.args.sealing.now _ _ before (multipliers_are (goal.at.returns c).After-draw)
    (errors_are (goal.at.returns c).After-draw)
