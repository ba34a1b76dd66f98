-- `numbers::sums::sum_place` meets its contract: each turn adds the product of one pair of vectors.
-- Assumes nothing.
use Prim.Native.Nat.{◌-◌}
use Rattle.numbers.proofs.SealingLaws.{Summed, product_terms}
use Rattle.numbers.proofs.sums.sum_place.Given as goal

abbrev pub invariant-loop-i : goal.invariant-loop-i
invariant-loop-i l = Summed l.p.q l.p.t (product_terms l.m l.xs l.n l.ys l.place) l.i l.sum
