-- `samplers::block::residues_with_buffers` meets its contract: each turn reads an output of the source and draws over it.
-- Assumes nothing.
use mathlib.Core.Path.{◌≡◌}
use Prim.Native.Nat.{◌-◌}
use lib.ListN.{length}
use Rattle.samplers.proofs.Drawing.{Drawing}
use Rattle.samplers.proofs.block.residues_with_buffers.Given as goal

abbrev pub invariant-loop-reached : goal.invariant-loop-reached
invariant-loop-reached l =
    (length l.bytes ≡ length l.initial.bytes) × Drawing l.p l.seed (length l.initial.bytes) l.first l.initial.out l.counter l.done l.run l.out

abbrev pub decreases-loop-reached : goal.decreases-loop-reached
decreases-loop-reached l = length l.initial.out - l.done
