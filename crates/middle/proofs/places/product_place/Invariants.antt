-- `middle::places::product_place` meets its contract: the loop adds the terms that count, and the whole sum is reduced.
-- Assumes nothing.
use Prim.Native.Nat.{◌-◌}
use Rattle.middle.proofs.PlaceSum.{Part}
use Rattle.middle.proofs.places.product_place.Given as goal

abbrev pub invariant-loop-j : goal.invariant-loop-j
invariant-loop-j l = Part l.a l.b l.p l.j l.sum
