-- `ntt_settle::settle` meets its contract: after i turns the first i numbers are residues, and the others are as they were.
-- Assumes nothing.
use mathlib.Core.Path.{refl, sym, ap, ◌∙◌}
use Prim.Native.Nat.{ℕ, ◌*◌, ◌%◌, ◌<◌}
use native.Mathlib.Nat.{zero-add}
use native.Mathlib.Omega.{arith}
use lib.ListN.{length}
use Rattle.maths.proofs.Vector.{tabulate_length, tabulate_at}
use Rattle.calls.proofs.Filled.{filled_none, filled_more, filled_whole, ahead}
use Rattle.montgomery.specs.Scaled.{unscale}
use Rattle.ntt_settle.proofs.settle.Goals as goal

pub loop-number-init : goal.loop-number-init
loop-number-init c = filled_none (tabulate_length _ _) (omega arith)

pub loop-number-preserved : goal.loop-number-preserved
loop-number-preserved c =
    let args = c.args in
    let turn = c.loop-number in
    let below : turn.number-index < length args.x.now = omega (arith, turn.invariant.kept_length, turn.auto) in
    filled_more 0 turn.invariant below (sym (zero-add turn.number-index))
    (c.settle_number.ensures ∙ ap (λ (y : ℕ). y * unscale args.reducer.q args.by % args.reducer.q) (ahead turn.invariant)
    ∙ sym (tabulate_at (length args.x.now) _ turn.number-index below))

pub returns : goal.returns
returns c = filled_whole c.loop-number.invariant refl (omega (arith, c.loop-number-test.false, c.loop-number.invariant.kept_length))
