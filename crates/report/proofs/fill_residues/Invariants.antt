-- `report::fill_residues`: the first numbers are below q, and the generator goes on from a number of 31 bits.
-- Assumes nothing.
use Prim.Native.Nat.{ℕ, ◌<◌}
use lib.ListN.{get_or}
use Rattle.report.proofs.fill_residues.Given as goal

abbrev pub invariant-loop-value : goal.invariant-loop-value
invariant-loop-value l = (l.x < 2147483648) × ((j : ℕ) → j < l.value-index → get_or l.values j 0 < l.q)
