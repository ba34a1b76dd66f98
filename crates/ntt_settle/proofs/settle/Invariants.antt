-- `ntt_settle::settle` meets its contract: after i turns the first i numbers are residues, and the others are as they were.
-- Assumes nothing.
use Prim.Native.Nat.{◌*◌, ◌%◌}
use lib.ListN.{length}
use Rattle.maths.specs.Vector.{at, tabulate}
use Rattle.calls.proofs.Filled.{Filled}
use Rattle.montgomery.specs.Scaled.{unscale}
use Rattle.ntt_settle.proofs.settle.Given as goal

abbrev pub invariant-loop-number : goal.invariant-loop-number
invariant-loop-number l =
    Filled l.initial.x 0 (length l.initial.x) (tabulate (length l.initial.x) (λ j. at l.initial.x j * unscale l.reducer.q l.by % l.reducer.q))
    l.number-index l.x
