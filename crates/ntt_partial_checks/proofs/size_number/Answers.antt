-- `ntt_partial_checks::size_number` meets its contract, by its tests in order.
-- Assumes nothing.
use mathlib.Core.Path.{sym}
use Prim.Native.Nat.{◌*◌, ◌≤◌}
use native.Mathlib.Nat.{mul-le-mul}
use native.Mathlib.Omega.{arith}
use Rattle.ntt_partial_checks.proofs.Sizes.{size_none, size_large, size_wide, size_one, size_two, size_three}
use Rattle.ntt_partial_checks.proofs.size_number.Goals as goal

pub returns-then-rows-gt4096 : goal.returns-then-rows-gt4096
returns-then-rows-gt4096 c = size_large c.args.p c.requires c.args.rows c.args.row c.if-rows-gt4096.true

pub returns-then-row-gt4096 : goal.returns-then-row-gt4096
returns-then-row-gt4096 c = size_wide c.args.p c.requires c.args.rows c.args.row c.if-row-gt4096.true

pub overflow_mul-size : goal.overflow_mul-size
overflow_mul-size c =
    let args = c.args in
    let most : args.rows * args.row ≤ 4096 * 4096 = mul-le-mul c.if-rows-gt4096.false c.if-row-gt4096.false in
    record { fits = omega arith }

pub returns-then-size-p : goal.returns-then-size-p
returns-then-size-p c = (omega arith, sym (size_one _ _ c.if-size-p.true))

pub returns-then-size-p-2 : goal.returns-then-size-p-2
returns-then-size-p-2 c = (omega arith, sym (size_two _ _ c.if-size-p.false c.if-size-p-2.true))

pub returns-then-size-p-3 : goal.returns-then-size-p-3
returns-then-size-p-3 c = (omega arith, sym (size_three _ _ c.if-size-p.false c.if-size-p-2.false c.if-size-p-3.true))

pub returns-else-size-p-3 : goal.returns-else-size-p-3
returns-else-size-p-3 c =
    size_none c.args.p c.requires _ c.if-size-p.false c.if-size-p-2.false c.if-size-p-3.false
