-- Which check of the set and of the lengths decides, and what lengths that pass keep.
-- Assumes nothing.
use mathlib.Core.Path.{◌≡◌, refl}
use mathlib.Core.Bool.{Bool, true, false, not}
use Prim.Native.Nat.{ℕ, ◌≤◌, ◌<◌}
use lib.Dec.{ltb}
use borrow.Author.Tests.{lt-ltb, le-ltb, ltb-false, not-false}
use Rattle.calls.specs.Outcome.{Outcome, accepted, refused, refuse, and_then}
use Rattle.calls.specs.Checks.{all_of}
use Rattle.calls.proofs.Outcome.{refuse_accepted}
use Rattle.sets.specs.Table.{set_of, last_set, no_set}
use Rattle.ntt_middle_checks.specs.Checks.{transformed_shape, lengths_checked_of}

module _ (set a b d work : ℕ) (after : Outcome) where
  -- no such set
  pub checked_set : last_set < set → lengths_checked_of set a b d work after ≡ refused 1 0
  unfolding lengths_checked_of
  checked_set h = rw (lt-ltb last_set set h)

  -- a length does not fit
  pub checked_shape : set ≤ last_set → all_of (transformed_shape (set_of set).d3 a b d work) ≡ false → lengths_checked_of set a b d work after ≡ refused 6 0
  unfolding lengths_checked_of
  checked_shape h e = rw (le-ltb last_set set h, e)

  -- b is longer than the largest transform
  pub checked_room : set ≤ last_set → all_of (transformed_shape (set_of set).d3 a b d work) ≡ true → (set_of set).d3 < b
      → lengths_checked_of set a b d work after ≡ refused 7 0
  unfolding lengths_checked_of
  checked_room h e l = rw (le-ltb last_set set h, e, lt-ltb (set_of set).d3 b l)

  -- all lengths pass
  pub checked_passed : set ≤ last_set → all_of (transformed_shape (set_of set).d3 a b d work) ≡ true → b ≤ (set_of set).d3
      → lengths_checked_of set a b d work after ≡ after
  unfolding lengths_checked_of
  checked_passed h e l = rw (le-ltb last_set set h, e, le-ltb (set_of set).d3 b l)

-- three checks, and then what comes after
three_then : (a b c : Bool) (after : Outcome)
    → refuse a 1 0 (refuse b 6 0 (refuse c 7 0 after)) ≡ and_then (refuse a 1 0 (refuse b 6 0 (refuse c 7 0 accepted))) after
three_then true b c after = refl
three_then false true c after = refl
three_then false false true after = refl
three_then false false false after = refl

module _ (set a b d work : ℕ) where
  pub lengths_then : (after : Outcome) → lengths_checked_of set a b d work after ≡ and_then (lengths_checked_of set a b d work accepted) after
  unfolding lengths_checked_of
  lengths_then after = three_then (no_set set) (not (all_of (transformed_shape (set_of set).d3 a b d work))) (ltb (set_of set).d3 b) after

  -- lengths that pass
  pub lengths_are : lengths_checked_of set a b d work accepted ≡ accepted
      → (set ≤ last_set) × (all_of (transformed_shape (set_of set).d3 a b d work) ≡ true) × (b ≤ (set_of set).d3)
  unfolding lengths_checked_of
  lengths_are e =
      let first = refuse_accepted _ 1 0 _ e in
      let second = refuse_accepted _ 6 0 _ first.1 in
      let third = refuse_accepted _ 7 0 _ second.1 in
      (ltb-false _ _ first.0, not-false _ second.0, ltb-false _ _ third.0)
