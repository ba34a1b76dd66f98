-- `packing::store_four` meets its contract: a byte written leaves the length.
-- Assumes nothing.
use native.Mathlib.Omega.{arith}
use lib.ListN.{length-set}
use Rattle.packing.proofs.store_four.Goals as goal

pub bounds-out-j-2 : goal.bounds-out-j-2
bounds-out-j-2 c = simp length-set (omega arith)

pub bounds-out-j-3 : goal.bounds-out-j-3
bounds-out-j-3 c = simp length-set (omega arith)

pub bounds-out-j-4 : goal.bounds-out-j-4
bounds-out-j-4 c = simp length-set (omega arith)
