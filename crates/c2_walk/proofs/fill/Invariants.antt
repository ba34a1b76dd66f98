-- `c2_walk::fill` meets its contract: after j turns the first j places are finished, and the rest is as it was before the walk.
-- Assumes nothing.
use lib.ListN.{length}
use Rattle.c2_place.specs.Walk.{Walked}
use Rattle.c2_walk.specs.Finished.{finished}
use Rattle.c2_walk.proofs.fill.Given as goal

abbrev pub invariant-loop-j : goal.invariant-loop-j
invariant-loop-j l = Walked (finished l.reducer.q l.by l.half l.count (length l.initial.c2) l.rows l.message) l.initial.c2 l.j l.c2
