-- c2 is made from the numbers of the key and the multipliers in the work slice.
-- Assumes nothing.
use mathlib.Core.Path.{sym, subst, ◌∙◌}
use Prim.Native.Nat.{ℕ, ◌+◌, ◌*◌, ◌≤◌}
use native.Mathlib.Omega.{arith}
use lib.ListN.{length}
use Rattle.sets.proofs.Rules.{listed_rules}
use Rattle.cpa_encrypt.specs.Parts.{KeyResidues}
use Rattle.cpa_encrypt.proofs.Sealed.{ends, key_residues, drawn_multipliers, sums_sealed, held_numbers, held_multipliers}
use Rattle.cpa_encrypt.proofs.numbers_before_packing.Goals.{After-multiplier_count}
use Rattle.cpa_encrypt.proofs.numbers_before_packing.Goals as goal

-- where the multipliers end
abbrev end : After-multiplier_count → ℕ
end c = c.args.p.d1 * c.args.p.t + c.multiplier_count.result

-- the numbers of the key and the multipliers fit
fits : (c : After-multiplier_count) → end c ≤ length c.args.work.now
fits c = omega (arith, (ends c.args.p c.requires.1).numbers_fit, c.multiplier_count.ensures, c.requires.5)

-- few numbers
few : (c : After-multiplier_count) → end c ≤ 18432
few c =
    let ending = ends c.args.p c.requires.1 in
    omega (arith, ending.few_numbers, ending.few_multipliers, c.multiplier_count.ensures)

pub overflow_mul-keys : goal.overflow_mul-keys
overflow_mul-keys c = omega (arith, (ends c.args.p c.requires.1).few_numbers)

pub multiplier_count-requires : goal.multiplier_count-requires
multiplier_count-requires c = listed_rules c.args.p c.requires.1

pub overflow_add-end : goal.overflow_add-end
overflow_add-end c = omega (arith, few c)

pub slice_bounds-second_numbers-end : goal.slice_bounds-second_numbers-end
slice_bounds-second_numbers-end c = omega (arith, c.load.auto.work, fits (goal.at.slice_bounds-second_numbers-end c).After-multiplier_count)

pub offset_bounds-work-keys : goal.offset_bounds-work-keys
offset_bounds-work-keys c = omega (arith, few (goal.at.offset_bounds-work-keys c).After-multiplier_count)

pub slice_bounds-second_numbers-end-2 : goal.slice_bounds-second_numbers-end-2
slice_bounds-second_numbers-end-2 c = omega (arith, c.load.auto.work, fits (goal.at.slice_bounds-second_numbers-end-2 c).After-multiplier_count)

pub second_numbers-requires : goal.second_numbers-requires
second_numbers-requires c =
    let p = c.args.p in
    let pre = c.requires in
    let held = c.load.ensures.held in (
      pre.0,
      pre.1,
      subst (KeyResidues p) (sym (held_numbers p c.args.key.now c.args.seed.now _ held)) (key_residues p c.args.key.now pre.3),
      drawn_multipliers p pre.1 c.args.seed.now _
          (held_multipliers p c.args.key.now c.args.seed.now _ held _ c.multiplier_count.ensures),
      pre.4,
    )

pub returns : goal.returns
returns c =
    let p = c.args.p in
    let held = c.load.ensures.held in
    c.second_numbers.ensures
    ∙ sums_sealed p c.args.key.now c.args.message.now c.args.seed.now _ _
    (held_numbers p c.args.key.now c.args.seed.now _ held)
    (held_multipliers p c.args.key.now c.args.seed.now _ held _ c.multiplier_count.ensures)
