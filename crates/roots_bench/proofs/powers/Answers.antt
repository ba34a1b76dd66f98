-- The table passes the test of recurrence, so it holds the powers of its root. Written by root_tables, not by hand.
-- Assumes nothing.
use mathlib.Core.Path.{refl}
use lib.Dec.{lit<}
use Rattle.maths.specs.Root.{continues, is_power_table}
use Rattle.maths.proofs.PowerTable.{power_table_lem}
use Rattle.roots_bench.proofs.powers.Goals as goal

pub returns : goal.returns
unfolding continues is_power_table
returns c = power_table_lem 17 4 4 _ (lit< tt) refl
