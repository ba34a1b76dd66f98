-- `numbers_key::fill` meets its contract: each turn writes one number.
-- Assumes nothing.
use Prim.Native.Nat.{◌-◌}
use lib.ListN.{length}
use Rattle.calls.proofs.Filled.{Filled}
use Rattle.numbers.specs.Scheme.{key}
use Rattle.numbers_key.proofs.fill.Given as goal

abbrev pub invariant-loop-l : goal.invariant-loop-l
invariant-loop-l l = Filled l.initial.b 0 (length l.initial.b) (key l.p l.a l.s l.e) l.l l.b
