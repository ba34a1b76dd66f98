-- `ntt::inverse` meets its contract: the rows and the twist, then the columns of the first m rows, and their residues.
-- Assumes nothing.
use mathlib.Core.Path.{◌≡◌, ap, ◌∙◌}
use Prim.Native.Nat.{◌+◌, ◌-◌, ◌*◌, ◌%◌, ◌≤◌}
use native.Mathlib.Nat.{mul-le-mul_right}
use native.Mathlib.Omega.{arith}
use lib.ListN.{length}
use Rattle.maths.proofs.Vector.{tabulate_length}
use Rattle.montgomery.specs.Scaled.{unscale}
use Rattle.ntt.proofs.Whole.{rest, front_changed, columns_ready, inverse_below, recovered}
use Rattle.ntt.proofs.inverse.Goals as goal

pub columns-requires : goal.columns-requires
columns-requires c =
    let pre = c.requires in
    rw (c.new-reducer.ensures, rest c.args.tables.now (c.args.rows * 256 + 264))
    (columns_ready pre.0 (c.inverse_rows.auto.x ∙ pre.2) (omega arith) pre.1
    (inverse_below (rw c.new-reducer.ensures at c.inverse_rows.ensures)) (omega (arith, pre.0.modulus.small)))

pub returns : goal.returns
returns c w e made scale =
    let pre = c.requires in
    let n = c.args.m * 256 in
    let whole : n - 0 ≡ n = omega arith in
    let fits : n ≤ length c.columns.new.x =
    omega (arith, c.columns.auto.x, c.inverse_rows.auto.x, pre.2, mul-le-mul_right 256 pre.1) in
    let settled = front_changed n c.columns.new.x c.settle.new.x _ (λ y. y * unscale c.args.q c.args.by % c.args.q)
    fits (rw (c.new-reducer.ensures, whole) at c.settle.ensures) in
    recovered pre.0 made e scale (rw c.new-reducer.ensures at c.inverse_rows.ensures) c.args.m pre.1
    (rw (c.new-reducer.ensures, rest c.args.tables.now (c.args.rows * 256 + 264)) at c.columns.ensures) settled (ap length settled ∙ tabulate_length n _)
