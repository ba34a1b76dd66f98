-- The arrays have room for the largest transform of every set, for its tables and for its bits.
-- Assumes nothing.
use mathlib.Core.Path.{sym, ◌∙◌}
use native.Mathlib.Omega.{arith}
use lib.ListN.{length-take, length-drop}
use Rattle.sets.proofs.Rules.{listed_rules}
use Rattle.sets.proofs.Transforms.{size_most}
use Rattle.calls.proofs.Parts.{array_front}
use Rattle.ntt_products.proofs.Laws.{table_most}
use Rattle.cpa_decrypt.proofs.read.Goals as goal

pub slice_bounds-tables-end : goal.slice_bounds-tables-end
slice_bounds-tables-end c =
    omega (arith, c.table_length-room.ensures, table_most c.args.p c.requires.1 3)

pub slice_bounds-x-end : goal.slice_bounds-x-end
slice_bounds-x-end c =
    omega (arith, c.requires.3.size, size_most c.args.p (listed_rules _ c.requires.1) 3)

pub read_with_buffers-requires : goal.read_with_buffers-requires
read_with_buffers-requires c =
    let room = c.table_length-room in
    let p = c.args.p in
    let pre = c.requires in (
      pre.0,
      pre.1,
      pre.2,
      pre.3,
      array_front 3605 room.result (omega (arith, room.ensures, table_most p pre.1 3)) ∙ room.ensures,
      simp (length-take, length-drop) (omega (arith, pre.3.size, size_most p (listed_rules p pre.1) 3)),
      sym pre.0.message_bits,
    )
