-- The sum over the positions is two products, which fit a word.
-- Assumes nothing.
use mathlib.Core.Path.{sym, ap, ap₂, ◌∙◌}
use Prim.Native.Nat.{ℕ, ◌+◌, ◌-◌, ◌*◌, ◌≤◌}
use native.Mathlib.Nat.{mul-le-mul}
use native.Mathlib.Omega.{arith}
use Rattle.ceiling.proofs.Laws.{sizes_are, sizes_small}
use Rattle.ceiling.proofs.multiplier_sizes.Goals.{After-power, After-power-2}
use Rattle.ceiling.proofs.multiplier_sizes.Goals as goal

pub overflow_sub-others : goal.overflow_sub-others
overflow_sub-others c = omega (arith, c.multiplier_count.ensures, c.requires.first_bound)

pub power-requires : goal.power-requires
power-requires c = let pre = c.requires in omega (arith, pre.bounds, pre.most_b2)

-- the product of the first positions
first_small : (c : After-power) → c.args.p.ndec1 * c.power.result ≤ 4194304
first_small c =
    let pre = c.requires in
    mul-le-mul {n₁ = c.args.p.ndec1} {m₁ = c.power.result} {n₂ = 8192} {m₂ = 512} (omega (arith, pre.first_bound, pre.most_multipliers))
    (omega (arith, c.power.ensures, sizes_small c.args.p pre))

pub overflow_mul-result : goal.overflow_mul-result
overflow_mul-result c = omega (arith, first_small c)

pub power-requires-2 : goal.power-requires-2
power-requires-2 c = omega (arith, c.requires.most_b2)

-- and that of the others
other_small : (c : After-power-2) → (c.multiplier_count.result - c.args.p.ndec1) * c.power-2.result ≤ 4194304
other_small c =
    let count = c.multiplier_count in
    mul-le-mul {n₁ = count.result - c.args.p.ndec1} {m₁ = c.power-2.result} {n₂ = 8192} {m₂ = 512}
    (omega (arith, count.ensures, c.requires.most_multipliers)) (omega (arith, c.power-2.ensures, sizes_small c.args.p c.requires))

pub overflow_mul-result-2 : goal.overflow_mul-result-2
overflow_mul-result-2 c = omega (arith, other_small c)

pub overflow_add-result : goal.overflow_add-result
overflow_add-result c = omega (arith, first_small (goal.at.overflow_add-result c).After-power, other_small c)

pub returns : goal.returns
returns c =
    let first = c.args.p.ndec1 in
    ap₂ ◌+◌ (ap (λ (n : ℕ). first * n) c.power.ensures)
    (ap₂ (λ (n m : ℕ). (n - first) * m) c.multiplier_count.ensures c.power-2.ensures)
    ∙ sym (sizes_are c.args.p c.requires.first_bound)
