-- `samplers::small::fill_multipliers` meets its contract: each turn writes the residue of the next multiplier.
-- Assumes nothing.
use Prim.Native.Nat.{◌-◌}
use lib.ListN.{length}
use Rattle.samplers.specs.Seeded.{multipliers_of}
use Rattle.samplers.proofs.Values.{Reduced}
use Rattle.samplers.proofs.small.fill_multipliers.Given as goal

abbrev pub invariant-loop-i : goal.invariant-loop-i
invariant-loop-i l = Reduced l.p.q (multipliers_of l.p l.bytes) l.initial.out l.i l.out
