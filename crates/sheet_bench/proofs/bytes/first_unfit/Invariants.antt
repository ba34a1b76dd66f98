-- `sheet_bench::bytes::first_unfit` meets its contract: each byte that the loop has passed is in range.
-- Assumes nothing.
use mathlib.Core.Path.{◌≡◌}
use mathlib.Core.Bool.{true}
use Prim.Native.Nat.{ℕ, ◌≤◌, ◌<◌}
use lib.ListN.{length, get_or}
use Rattle.sheet_bench.specs.Bench.{bench_fits}
use Rattle.sheet_bench.proofs.bytes.first_unfit.Given as goal

abbrev pub invariant-loop-i : goal.invariant-loop-i
invariant-loop-i l = (l.i ≤ length l.input) × ((k : ℕ) → k < l.i → bench_fits k (get_or l.input k 0) ≡ true)
