-- `ntt_partial_steps::forward_wide` meets its contract: the rows that were copied are sent, and the array has room for the tables.
-- Assumes nothing.
use mathlib.Core.Path.{◌≡◌, ap, ◌∙◌}
use Prim.Native.Nat.{◌*◌, ◌-◌}
use native.Mathlib.Omega.{arith}
use lib.ListN.{take}
use Rattle.calls.specs.Region.{over}
use Rattle.calls.proofs.Parts.{array_front}
use Rattle.ntt_products.proofs.Laws.{table_most}
use Rattle.ntt_products.specs.Stored.{sent}
use Rattle.ntt_partial_steps.proofs.Rows.{wide_copied, wide_placed}
use Rattle.ntt_partial_steps.proofs.forward_wide.Goals.{After-copy_in}
use Rattle.ntt_partial_steps.proofs.forward_wide.Goals as goal

-- the rows that were copied
copied : (c : After-copy_in)
    → c.copy_in.new.dst ≡ over c.args.out.now 0 (take (c.args.m * 256) c.args.input.now)
copied c =
    let end : c.args.m * 256 - 0 ≡ c.args.m * 256 = omega arith in
    rw end at c.copy_in.ensures

pub slice_bounds-room-end : goal.slice_bounds-room-end
slice_bounds-room-end c = omega (arith, c.table_length-length.ensures, table_most c.args.p c.requires.0 c.args.i)

pub load_tables-requires : goal.load_tables-requires
load_tables-requires c =
    let room = c.table_length-length in
    (c.requires.0, array_front 3605 room.result (omega (arith, room.ensures, table_most c.args.p c.requires.0 c.args.i)) ∙ room.ensures)

pub send_first-requires : goal.send_first-requires
send_first-requires c =
    let placed = wide_placed c.requires.1 c.args.out.now c.requires.2 in
    (c.requires.0, c.load_tables.ensures.lent, rw (copied (goal.at.send_first-requires c).After-copy_in) placed)

pub returns : goal.returns
returns c =
    c.send_first.ensures.root c.load_tables.ensures
    ∙ ap (sent c.args.p c.args.i) (rw (copied (goal.at.returns c).After-copy_in) (wide_copied c.requires.1 c.args.out.now c.requires.2))
