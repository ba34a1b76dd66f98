-- `ntt::forward` meets its contract: columns of the first m rows, then the twist and the rows.
-- Assumes nothing.
use mathlib.Core.Path.{◌∙◌}
use Prim.Native.Nat.{◌+◌, ◌*◌}
use Rattle.ntt.proofs.Whole.{rest, sent}
use Rattle.ntt.proofs.forward.Goals as goal

pub returns : goal.returns
returns c w made =
    let pre = c.requires in
    sent pre.0 made c.args.m pre.1 c.scaled_scale-by.ensures pre.2 (c.columns.auto.x ∙ pre.2)
    (rw (c.new-reducer.ensures, rest c.args.tables.now (c.args.rows * 256 + 264)) at c.columns.ensures) (rw c.new-reducer.ensures at c.turn_rows.ensures)
