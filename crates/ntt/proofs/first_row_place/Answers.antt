-- `ntt::first_row_place` meets its contract: the sum of the column, times the factor at the end, as a residue.
-- Assumes nothing.
use mathlib.Core.Path.{ap, ◌∙◌}
use Prim.Native.Nat.{ℕ, ◌*◌, ◌%◌}
use Rattle.montgomery.specs.Scaled.{unscale}
use Rattle.ntt.specs.Rows.{first_row_at}
use Rattle.ntt.proofs.first_row_place.Goals as goal

pub returns : goal.returns
unfolding first_row_at
returns c =
    let args = c.args in
    c.settle_number.ensures ∙ ap (λ (y : ℕ). y * unscale args.reducer.q args.by % args.reducer.q) c.column_total-total.ensures
