-- What open calls on numbers share: the checks of the set and of the lengths come first (01, How each call answers), and residues are factors.
-- Assumes nothing.
use mathlib.Core.Path.{◌≡◌}
use mathlib.Core.Bool.{Bool, true, false, not}
use mathlib.Core.List.{List}
use Prim.Native.Nat.{ℕ, ◌^◌, ◌≤◌, ◌<◌}
use native.Mathlib.Omega.{arith}
use borrow.Author.Tests.{lt-ltb, le-ltb}
use lib.ListN.{length}
use Rattle.calls.specs.Outcome.{Outcome, refused, refuse}
use Rattle.calls.specs.Checks.{all_of}
use Rattle.sets.specs.Table.{last_set, no_set}
use Rattle.maths.specs.Vector.{Below}
use Rattle.middle.specs.Operand.{Operand}

-- the checks of the set and of the lengths, and then the others
abbrev pub opening : ℕ → List Bool → ℕ → Outcome → Outcome
opening set tests number after = refuse (no_set set) 1 0 (refuse (not (all_of tests)) number 0 after)

module _ (set : ℕ) (tests : List Bool) (number : ℕ) (after : Outcome) where
  -- no such set
  pub opening_set : last_set < set → opening set tests number after ≡ refused 1 0
  opening_set h = rw (lt-ltb last_set set h)

  -- a length does not fit
  pub opening_lengths : set ≤ last_set → all_of tests ≡ false → opening set tests number after ≡ refused number 0
  opening_lengths h e = rw (le-ltb last_set set h, e)

  -- both pass
  pub opening_passed : set ≤ last_set → all_of tests ≡ true → opening set tests number after ≡ after
  opening_passed h e = rw (le-ltb last_set set h, e)

-- residues of a set are small enough to be factors
pub operand : {q : ℕ} {xs : List ℕ} → q < 2 ^ 24 → length xs ≤ 4096 → Below q xs → Operand xs
operand small most each = record { most = most; small = λ k h. omega (arith, each k h) }
