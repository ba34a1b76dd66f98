-- Checks one after the other: the answer of a check of one slice, and what the checks after it make of it.
-- Assumes nothing.
use mathlib.Core.Path.{◌≡◌, refl, sym, ap, ◌∙◌}
use mathlib.Core.Bool.{Bool, true, false}
use mathlib.Core.List.{List, ◌++◌}
use Prim.Native.Nat.{ℕ, ◌+◌}
use native.Mathlib.Nat.{zero-add}
use native.Mathlib.Omega.{arith}
use lib.Dec.{ltb}
use lib.ListN.{length}
use Rattle.calls.specs.Outcome.{Outcome, accepted, refused, refuse}
use Rattle.calls.specs.Checks.{passing, refuse_first, below}
use Rattle.maths.specs.Vector.{Below}
use Rattle.calls.proofs.Outcome.{accepted_refused}
use Rattle.calls.proofs.Checks.{refuse_first_passes, refuse_first_accepted, refuse_first_below_append, passing_below}

-- a check that refuses does so whatever comes after
refuse_still : (t : Bool) (n p : ℕ) (after : Outcome) {number place : ℕ} → refuse t n p accepted ≡ refused number place
    → refuse t n p after ≡ refused number place
refuse_still true n p after e = e
refuse_still false n p after e = absurd (accepted_refused refl e)

module _ {A : Type 0} (test : ℕ → A → Bool) (offset : ℕ) (xs : List A) (after : Outcome) where
  -- the check of the first slice refused: so do all checks together
  pub first_refused : {number place : ℕ} → refused number place ≡ refuse_first test 0 offset xs accepted
      → refused number place ≡ refuse_first test 0 offset xs after
  unfolding refuse_first
  first_refused e = sym (refuse_still (ltb (passing test 0 xs) (length xs)) 3 (offset + passing test 0 xs) after (sym e))

  -- the check of the first slice accepted: all its entries pass
  pub first_passing : accepted ≡ refuse_first test 0 offset xs accepted → passing test 0 xs ≡ length xs
  first_passing e = (refuse_first_accepted test 0 offset xs accepted (sym e)).0

  -- and what comes after decides
  pub first_accepted : accepted ≡ refuse_first test 0 offset xs accepted → after ≡ refuse_first test 0 offset xs after
  first_accepted e = sym (refuse_first_passes test 0 offset xs after (length xs) (sym (first_passing e)) (omega arith))

-- numbers of two slices, one after the other
pub two_slices : (limit : ℕ) (xs ys : List ℕ) (after : Outcome)
    → refuse_first (below limit) 0 0 (xs ++ ys) after ≡ refuse_first (below limit) 0 0 xs (refuse_first (below limit) 0 (length xs) ys after)
two_slices limit xs ys after = refuse_first_below_append limit 0 xs ys after ∙ rw zero-add

-- an accepted check: every number is below the limit, and what comes after accepts
pub accepted_one : (limit offset : ℕ) (xs : List ℕ) (after : Outcome) → refuse_first (below limit) 0 offset xs after ≡ accepted
    → Below limit xs × (after ≡ accepted)
accepted_one limit offset xs after e =
    let both = refuse_first_accepted (below limit) 0 offset xs after e in
    (passing_below limit xs both.0, both.1)

-- the same for two slices
pub accepted_two : (limit : ℕ) (xs ys : List ℕ) (after : Outcome) → refuse_first (below limit) 0 0 (xs ++ ys) after ≡ accepted
    → Below limit xs × Below limit ys × (after ≡ accepted)
accepted_two limit xs ys after e =
    let first = accepted_one limit 0 xs _ (sym (two_slices limit xs ys after) ∙ e) in
    let second = accepted_one limit (length xs) ys after first.1 in
    (first.0, second.0, second.1)
