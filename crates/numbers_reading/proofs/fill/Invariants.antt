-- `numbers_reading::fill` meets its contract: each turn reads one bit.
-- Assumes nothing.
use Prim.Native.Nat.{◌-◌}
use lib.ListN.{length}
use Rattle.calls.proofs.Filled.{Filled}
use Rattle.numbers.specs.Scheme.{reading}
use Rattle.numbers_reading.proofs.fill.Given as goal

abbrev pub invariant-loop-j : goal.invariant-loop-j
invariant-loop-j l = Filled l.initial.bits 0 l.p.d (reading l.set l.p l.c1 l.c2 l.s) l.j l.bits
