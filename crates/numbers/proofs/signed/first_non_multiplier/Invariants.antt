-- `numbers::signed::first_non_multiplier` meets its contract: each number that the loop has passed is a multiplier at its position.
-- Assumes nothing.
use mathlib.Core.Path.{◌≡◌}
use mathlib.Core.Bool.{true}
use Prim.Native.Nat.{ℕ, ◌≤◌, ◌<◌, ◌-◌}
use lib.IntN.{pos}
use lib.ListN.{length, get_or}
use Rattle.numbers.specs.Calls.{is_multiplier_of}
use Rattle.numbers.proofs.signed.first_non_multiplier.Given as goal

abbrev pub invariant-loop-i : goal.invariant-loop-i
invariant-loop-i l = (l.i ≤ length l.rs) × ((k : ℕ) → k < l.i → is_multiplier_of l.p k (get_or l.rs k (pos 0)) ≡ true)
