-- What a loop has written so far, four numbers a turn at consecutive places of four neighbouring blocks: something is known of each four, and other places
-- are as before.
-- Assumes nothing.
use mathlib.Core.Path.{◌≡◌, refl, ◌∙◌}
use mathlib.Core.Logic.{◌⊎◌, ◌≢◌}
use mathlib.Core.List.{List}
use Prim.Native.Nat.{ℕ, ◌+◌, ◌*◌, ◌≤◌, ◌<◌}
use native.Mathlib.Omega.{arith}
use lib.ListN.{length, set, length-set}
use lib.Seq.{get_or-set_same, get_or-set_other}
use Rattle.maths.specs.Vector.{at}
use Rattle.calls.proofs.Written.{last_or_before, outside}
use Rattle.ntt_steps.specs.Steps.{written_apart}

-- the first i places of each of the four blocks of size places from start on are written, and P holds of each four
pub record FourWritten (P : ℕ → ℕ → ℕ → ℕ → ℕ → Type 0) (start size : ℕ) (old : List ℕ) (i : ℕ) (to : List ℕ) : Type 0 where
  pub within : i ≤ size
  pub kept : length to ≡ length old
  pub each : (j : ℕ) → j < i → P j (at to (start + j)) (at to (start + (size + j))) (at to (start + (2 * size + j))) (at to (start + (3 * size + j)))
  pub others : (k : ℕ) → (k < start) ⊎ (start + 4 * size ≤ k) → at to k ≡ at old k

-- before the first turn
pub four_none : (P : ℕ → ℕ → ℕ → ℕ → ℕ → Type 0) (start size : ℕ) (old : List ℕ) → FourWritten P start size old 0 old
four_none P start size old = record { within = omega arith; kept = refl; each = λ j h. absurd (omega arith); others = λ k h. refl }

-- four numbers are written, each `apart` places after the one before
module _ (to : List ℕ) (place apart z₀ z₁ z₂ z₃ : ℕ) where
  -- after one, two and three of them
  abbrev one : List ℕ
  one = set to place z₀

  abbrev two : List ℕ
  two = set one (place + apart) z₁

  abbrev three : List ℕ
  three = set two (place + 2 * apart) z₂

  -- the length
  apart_length : length (written_apart to place apart z₀ z₁ z₂ z₃) ≡ length to
  unfolding written_apart
  apart_length = simp length-set

  -- another place
  apart_other : (k : ℕ) → k ≢ place → k ≢ place + apart → k ≢ place + 2 * apart → k ≢ place + 3 * apart
      → at (written_apart to place apart z₀ z₁ z₂ z₃) k ≡ at to k
  unfolding written_apart
  apart_other k a b c d =
      get_or-set_other three (place + 3 * apart) k z₃ 0 d ∙ get_or-set_other two (place + 2 * apart) k z₂ 0 c ∙ get_or-set_other one (place + apart) k z₁ 0 b
      ∙ get_or-set_other to place k z₀ 0 a

  -- the places written, which are different ones
  module _ (some : 0 < apart) (inside : place + 3 * apart < length to) where
    apart_zeroth : at (written_apart to place apart z₀ z₁ z₂ z₃) place ≡ z₀
    unfolding written_apart
    apart_zeroth =
        get_or-set_other three (place + 3 * apart) place z₃ 0 (λ e. omega arith) ∙ get_or-set_other two (place + 2 * apart) place z₂ 0 (λ e. omega arith)
        ∙ get_or-set_other one (place + apart) place z₁ 0 (λ e. omega arith)
        ∙ get_or-set_same to place z₀ 0 (omega arith)

    apart_first : at (written_apart to place apart z₀ z₁ z₂ z₃) (place + apart) ≡ z₁
    unfolding written_apart
    apart_first =
        get_or-set_other three (place + 3 * apart) (place + apart) z₃ 0 (λ e. omega arith)
        ∙ get_or-set_other two (place + 2 * apart) (place + apart) z₂ 0 (λ e. omega arith)
        ∙ get_or-set_same one (place + apart) z₁ 0 (simp length-set (omega arith))

    apart_second : at (written_apart to place apart z₀ z₁ z₂ z₃) (place + 2 * apart) ≡ z₂
    unfolding written_apart
    apart_second =
        get_or-set_other three (place + 3 * apart) (place + 2 * apart) z₃ 0 (λ e. omega arith)
        ∙ get_or-set_same two (place + 2 * apart) z₂ 0 (simp length-set (omega arith))

    apart_third : at (written_apart to place apart z₀ z₁ z₂ z₃) (place + 3 * apart) ≡ z₃
    unfolding written_apart
    apart_third = get_or-set_same three (place + 3 * apart) z₃ 0 (simp length-set (omega arith))

-- one more turn
module _ {P : ℕ → ℕ → ℕ → ℕ → ℕ → Type 0} {start size : ℕ} {old : List ℕ} {i : ℕ} {to : List ℕ} (t : FourWritten P start size old i to)
    (z₀ z₁ z₂ z₃ : ℕ) (more : i < size) (room : start + 4 * size ≤ length old) (holds : P i z₀ z₁ z₂ z₃) where
  -- the places of this turn
  first_place : start + i + size ≡ start + (size + i)
  first_place = omega arith

  second_place : start + i + 2 * size ≡ start + (2 * size + i)
  second_place = omega arith

  third_place : start + i + 3 * size ≡ start + (3 * size + i)
  third_place = omega arith

  -- the four numbers of this turn
  this_turn : (j : ℕ) → j ≡ i → let new = written_apart to (start + i) size z₀ z₁ z₂ z₃ in
      P j (at new (start + j)) (at new (start + (size + j))) (at new (start + (2 * size + j))) (at new (start + (3 * size + j)))
  this_turn j e =
      let some : 0 < size = omega arith in
      let inside : start + i + 3 * size < length to = omega (arith, t.kept) in
      rw (
        e,
        ← first_place,
        ← second_place,
        ← third_place,
        apart_zeroth to (start + i) size z₀ z₁ z₂ z₃ some inside,
        apart_first to (start + i) size z₀ z₁ z₂ z₃ some inside,
        apart_second to (start + i) size z₀ z₁ z₂ z₃ some inside,
        apart_third to (start + i) size z₀ z₁ z₂ z₃ some inside,
      ) holds

  -- a place of another turn
  other_turn : (k : ℕ) → k ≢ start + i → k ≢ start + (size + i) → k ≢ start + (2 * size + i) → k ≢ start + (3 * size + i)
      → at (written_apart to (start + i) size z₀ z₁ z₂ z₃) k ≡ at to k
  other_turn k a b c d =
      apart_other to (start + i) size z₀ z₁ z₂ z₃ k a (λ e. b (e ∙ first_place)) (λ e. c (e ∙ second_place)) (λ e. d (e ∙ third_place))

  -- the four numbers of an earlier turn
  earlier_turn : (j : ℕ) → j < i → let new = written_apart to (start + i) size z₀ z₁ z₂ z₃ in
      P j (at new (start + j)) (at new (start + (size + j))) (at new (start + (2 * size + j))) (at new (start + (3 * size + j)))
  earlier_turn j l =
      rw (
        other_turn (start + j) (λ e. omega arith) (λ e. omega arith) (λ e. omega arith) (λ e. omega arith),
        other_turn (start + (size + j)) (λ e. omega arith) (λ e. omega arith) (λ e. omega arith) (λ e. omega arith),
        other_turn (start + (2 * size + j)) (λ e. omega arith) (λ e. omega arith) (λ e. omega arith) (λ e. omega arith),
        other_turn (start + (3 * size + j)) (λ e. omega arith) (λ e. omega arith) (λ e. omega arith) (λ e. omega arith),
      ) (t.each j l)

  pub four_more : FourWritten P start size old (i + 1) (written_apart to (start + i) size z₀ z₁ z₂ z₃)
  four_more =
      record {
        within = omega arith;
        kept = apart_length to (start + i) size z₀ z₁ z₂ z₃ ∙ t.kept;
        each = λ j h. last_or_before h (this_turn j) (earlier_turn j);
        others = λ k h.
            other_turn k (outside h i (omega arith)) (outside h (size + i) (omega arith)) (outside h (2 * size + i) (omega arith))
            (outside h (3 * size + i) (omega arith))
            ∙ t.others k h;
      }
