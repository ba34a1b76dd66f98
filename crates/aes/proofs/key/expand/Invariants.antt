-- `aes::key::expand` meets its contract: after i turns the first i words stand there.
-- Assumes nothing.
use mathlib.Core.Path.{◌≡◌}
use Prim.Native.Nat.{◌≤◌}
use lib.ListN.{length, take}
use Rattle.aes.specs.Key.{words}
use Rattle.aes_tables.specs.Words.{schedule}
use Rattle.aes.proofs.key.expand.Given as goal

abbrev pub invariant-loop-i : goal.invariant-loop-i
invariant-loop-i l = (l.i ≤ 60) × (length l.w ≡ 60) × (schedule (take l.i l.w) ≡ words l.key l.i)
