-- `run_scheme::made::fill_noise` meets its contract: each number that is stored is small.
-- Assumes nothing.
use mathlib.Core.Path.{◌≡◌}
use lib.ListN.{length}
use Rattle.sheet_order.specs.Order.{Sizes}
use Rattle.run_scheme.proofs.made.fill_noise.Given as goal

abbrev pub invariant-loop-j : goal.invariant-loop-j
invariant-loop-j l = Sizes l.noise × (length l.noise ≡ length l.initial.noise)
