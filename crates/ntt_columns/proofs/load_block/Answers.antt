-- `ntt_columns::load_block` meets its contract: after n turns the first n rows are copied.
-- Assumes nothing.
use mathlib.Core.Path.{refl}
use Prim.Native.Nat.{◌+◌, ◌*◌}
use Rattle.calls.proofs.Region.{region_part}
use Rattle.ntt_columns.proofs.Loading.{loading_more}
use Rattle.ntt_columns.proofs.load_block.Goals as goal

pub loop-n-preserved : goal.loop-n-preserved
loop-n-preserved c =
    let turn = c.loop-n in
    let taken = c.loop-n-test.true in
    let from = 256 * turn.n + 64 * c.args.b in
    let copied = c.copy_in in
    loading_more c.requires turn.invariant taken (rw (region_part c.args.x.now from 64 (from + 64) refl) at copied.ensures)
