-- `samplers::block::continue_draw` meets its contract: each turn draws one result.
-- Assumes nothing.
use Prim.Native.Nat.{◌-◌}
use lib.ListN.{length}
use Rattle.samplers.proofs.Continuing.{Continuing}
use Rattle.samplers.proofs.block.continue_draw.Given as goal

abbrev pub invariant-loop-done : goal.invariant-loop-done
invariant-loop-done l = Continuing l.bytes l.q l.threshold l.from l.before l.initial.out l.position l.done l.run l.out
