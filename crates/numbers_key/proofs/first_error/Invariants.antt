-- `numbers_key::first_error` meets its contract: each number that the loop has passed is within the limit.
-- Assumes nothing.
use mathlib.Core.Path.{◌≡◌}
use mathlib.Core.Bool.{true}
use Prim.Native.Nat.{ℕ, ◌≤◌, ◌<◌, ◌-◌}
use lib.Dec.{leb}
use lib.IntN.{pos, nat_abs}
use lib.ListN.{length, get_or}
use Rattle.numbers_key.proofs.first_error.Given as goal

abbrev pub invariant-loop-i : goal.invariant-loop-i
invariant-loop-i l = (l.i ≤ length l.es) × ((k : ℕ) → k < l.i → leb (nat_abs (get_or l.es k (pos 0))) l.eta ≡ true)
