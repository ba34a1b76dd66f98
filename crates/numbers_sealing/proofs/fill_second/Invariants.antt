-- `numbers_sealing::fill_second` meets its contract: after j turns the first j places are finished, and the rest is as it was before the walk.
-- Assumes nothing.
use Prim.Native.Nat.{◌-◌}
use Rattle.c2_place.specs.Walk.{Walked}
use Rattle.numbers_sealing_parts.specs.Finished.{finished}
use Rattle.numbers_sealing.proofs.fill_second.Given as goal

abbrev pub invariant-loop-j : goal.invariant-loop-j
invariant-loop-j l = Walked (finished l.p l.rs l.b l.m) l.initial.c2 l.j l.c2
