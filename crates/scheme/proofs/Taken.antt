-- Draws that have their numbers: one draw, and all of a family (`is_taken`, `all_taken`).
-- Assumes nothing.
use mathlib.Core.Path.{◌≡◌, refl}
use mathlib.Core.Bool.{Bool, true, false, ◌&&◌}
use mathlib.Core.Logic.{inl, inr}
use mathlib.Core.List.{List}
use Prim.Native.Nat.{ℕ, zero, suc, ◌+◌, ◌<◌}
use native.Mathlib.Nat.{eq-or-lt_of_le, le_of_suc-le-suc}
use native.Mathlib.Numerals.{add-one}
use native.Mathlib.Omega.{arith}
use Rattle.maths.proofs.Tests.{both_true}
use Rattle.draws.specs.Uniform.{Drawn, taken, ended, exhausted, numbers}
use Rattle.scheme.specs.Answers.{is_taken, all_taken}

-- a draw without its numbers is not taken
pub not_taken : (drawn : Drawn) → ((xs : List ℕ) → drawn ≡ taken xs → ⊥) → is_taken drawn ≡ false
not_taken (taken xs) h = absurd (h xs refl)
not_taken (ended xs run) h = refl
not_taken (exhausted i) h = refl

-- a draw that is taken has numbers
pub taken_numbers : (drawn : Drawn) → is_taken drawn ≡ true → drawn ≡ taken (numbers drawn)
unfolding numbers
taken_numbers (taken xs) e = refl
taken_numbers (ended xs run) e = let z : ◌≡◌ {A = ℕ} 0 1 = cc in absurd (omega arith)
taken_numbers (exhausted i) e = let z : ◌≡◌ {A = ℕ} 0 1 = cc in absurd (omega arith)

-- a test that fails on the right
and_false : (a : Bool) → (a && false) ≡ false
and_false true = refl
and_false false = refl

-- one draw that is not taken
pub all_taken_false : (t : ℕ) (draw : ℕ → Drawn) (i : ℕ) → i < t → is_taken (draw i) ≡ false → all_taken t draw ≡ false
unfolding all_taken
all_taken_false zero draw i h e = absurd (omega arith)
all_taken_false (suc t) draw i h e =
    elim (eq-or-lt_of_le (le_of_suc-le-suc h)) [
      | inl last ↦ rw (rw last at e) (and_false (all_taken t draw))
      | inr before ↦ rw (all_taken_false t draw i before e)
    ]

-- each of the draws is taken
pub all_taken_each : (t : ℕ) (draw : ℕ → Drawn) → all_taken t draw ≡ true → (i : ℕ) → i < t → is_taken (draw i) ≡ true
unfolding all_taken
all_taken_each zero draw e i h = absurd (omega arith)
all_taken_each (suc t) draw e i h =
    let both = both_true (all_taken t draw) (is_taken (draw t)) e in
    elim (eq-or-lt_of_le (le_of_suc-le-suc h)) [
      | inl last ↦ rw last both.1
      | inr before ↦ all_taken_each t draw both.0 i before
    ]

-- one draw more is taken
pub all_taken_more : (t : ℕ) (draw : ℕ → Drawn) → all_taken t draw ≡ true → is_taken (draw t) ≡ true → all_taken (t + 1) draw ≡ true
unfolding all_taken
all_taken_more t draw all more = rw (add-one, all, more)

-- no draw
pub all_taken_none : (draw : ℕ → Drawn) → all_taken 0 draw ≡ true
unfolding all_taken
all_taken_none draw = refl
