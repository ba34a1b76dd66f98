-- The answer of a middle product once its set and lengths are checked (01, How each call answers).
-- Assumes nothing.
use mathlib.Core.Path.{◌≡◌}
use mathlib.Core.Bool.{true}
use mathlib.Core.List.{List, ◌++◌}
use Prim.Native.Nat.{ℕ, ◌≤◌}
use lib.ListN.{length}
use Rattle.calls.specs.Outcome.{accepted}
use Rattle.calls.specs.Checks.{all_of, refuse_first, below}
use Rattle.sets.specs.Table.{set_of, last_set}
use Rattle.middle.specs.Calls.{middle_shape, middle_answer}
use Rattle.middle.proofs.OpenCall.{opening_passed}

-- the numbers decide
pub middle_numbers : (set : ℕ) (a b : List ℕ) (d q : ℕ) → q ≡ (set_of set).q → set ≤ last_set → all_of (middle_shape (length a) (length b) d) ≡ true
    → middle_answer set a b d ≡ refuse_first (below q) 0 0 (a ++ b) accepted
unfolding middle_answer
middle_numbers set a b d q e h fits = rw e (opening_passed set _ 6 _ h fits)
