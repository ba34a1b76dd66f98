-- `packing::pack_words` (003, algorithm 19) meets its contract: of the numbers taken, j bytes are written and less than four are held.
-- Assumes nothing.
use native.Mathlib.Omega.{arith}
use lib.ListN.{length}
use Rattle.calls.proofs.Filled.{filled_none}
use Rattle.packing.proofs.Dropped.{pack_dropping_length}
use Rattle.packing.proofs.Words.{held_none, held_less, held_taken, held_written}
use Rattle.packing.proofs.pack_words.Goals.{then-bits-ge32, else-bits-ge32}
use Rattle.packing.proofs.pack_words.Goals as goal

pub loop-number-init : goal.loop-number-init
loop-number-init c = (omega arith, held_none _ _, filled_none (pack_dropping_length _ _ _ _) (omega arith))

pub returns-then-out-j : goal.returns-then-out-j
returns-then-out-j c = (c.loop-number.invariant.2.within, c.loop-number.invariant.2.written)

pub loop-number-preserved : goal.loop-number-preserved
loop-number-preserved c =
    let a = c.args in
    let now = c.loop-number in
    let more = held_taken a.width a.cmp a.numbers.now c.requires.widths c.requires.digit now.invariant.1 c.from.ensures c.held_with-held.ensures in
    elim c.if-bits-ge32.branch [
      | then-bits-ge32 w ↦ rw (w.bits-is, w.held-is, w.j-is, w.out-is) (
        omega arith,
        held_less more 4 (omega arith),
        held_written a.width a.cmp a.numbers.now (length a.out.now) more (omega arith) (omega arith) now.invariant.2 w.store_four.ensures,
      )
      | else-bits-ge32 w ↦ rw (w.bits-is, w.held-is, w.j-is, w.out-is) (omega arith, more, now.invariant.2)
    ]

pub returns : goal.returns
returns c = (c.loop-number.invariant.2.within, c.loop-number.invariant.2.written)
