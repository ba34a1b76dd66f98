-- The loop over the rows, for any relation of a row before and after it.
-- Assumes nothing.
use mathlib.Core.Path.{◌≡◌, refl, sym, ◌∙◌}
use mathlib.Core.Logic.{inl, inr}
use mathlib.Core.List.{List}
use Prim.Native.Nat.{ℕ, ◌+◌, ◌*◌, ◌≤◌, ◌<◌}
use native.Mathlib.Nat.{eq-or-lt_of_le, le_of_suc-le-suc}
use native.Mathlib.Numerals.{add-one}
use native.Mathlib.Omega.{arith}
use lib.ListN.{length}
use Rattle.maths.specs.Vector.{AllBelow}
use Rattle.maths.proofs.Vector.{equal_by_place}
use Rattle.calls.specs.Region.{region, over}
use Rattle.calls.proofs.Region.{region_length, region_entry, region_over_same, over_outside, over_length}
use Rattle.ntt_rows.specs.Rows.{ForwardReady, InverseReady}
use Rattle.ntt.specs.Rows.{RowsReady, RowReplaced, RowGiven, RowAt, RowsGiven, RowsTurned}
use Rattle.ntt.specs.declared.Direction.{Direction}
use Rattle.ntt.specs.declared.Direction.TheVariants.{Forward, Inverse}
use Rattle.ntt.proofs.Places.{same_row, row_end}

-- a part of numbers below q
part_below : {q n : ℕ} {xs : List ℕ} (start m : ℕ) → AllBelow q n xs → start + m ≤ n → AllBelow q m (region xs start m)
part_below {xs = xs} start m below fits = record { each = λ i h. rw (region_entry xs start m i 0 h) (below.each (start + i) (omega arith)) }

module _ {q δ r : ℕ} {tables x : List ℕ} (ready : RowsReady q δ tables x) (h : r < δ) where
  -- the places of a row
  pub row_inside : r * 256 + 256 ≤ δ * 256
  row_inside = row_end 256 h

  -- row r may be sent
  pub forward_ready : {by : ℕ} → by < q → ForwardReady q by (region tables (r * 256) 256) (region tables (δ * 256) 264) (region x (r * 256) 256)
  forward_ready small =
      record {
        by_below = small;
        twist_size = region_length tables (r * 256) 256 (omega (arith, ready.ready.size, row_inside));
        twist_below = part_below (r * 256) 256 ready.ready.below (omega (arith, row_inside));
        tables_size = region_length tables (δ * 256) 264 (omega (arith, ready.ready.size));
        tables_below = part_below (δ * 256) 264 ready.ready.below (omega arith);
        size = region_length x (r * 256) 256 (omega (arith, ready.size, row_inside));
      }

  -- row r may be recovered
  pub inverse_ready : AllBelow (2 * q) 256 (region x (r * 256) 256)
      → InverseReady q (region tables (r * 256) 256) (region tables (δ * 256) 264) (region x (r * 256) 256)
  inverse_ready below =
      record {
        twist_size = region_length tables (r * 256) 256 (omega (arith, ready.ready.size, row_inside));
        twist_below = part_below (r * 256) 256 ready.ready.below (omega (arith, row_inside));
        tables_size = region_length tables (δ * 256) 264 (omega (arith, ready.ready.size));
        tables_below = part_below (δ * 256) 264 ready.ready.below (omega arith);
        size = region_length x (r * 256) 256 (omega (arith, ready.size, row_inside));
        below = below;
      }

-- the rows that are done after r turns
pub record RowsDone (P : ℕ → List ℕ → List ℕ → Type 0) (δ : ℕ) (old : List ℕ) (r : ℕ) (new : List ℕ) : Type 0 where
  pub within : r ≤ δ
  pub kept : length new ≡ length old
  pub done : (i : ℕ) → i < r → P i (region old (i * 256) 256) (region new (i * 256) 256)
  pub rest : (i : ℕ) → r ≤ i → i < δ → region new (i * 256) 256 ≡ region old (i * 256) 256

-- another row is not touched
other_row : (xs row : List ℕ) (δ r i : ℕ) → length xs ≡ δ * 256 → length row ≡ 256 → r < δ → i < δ → (i ≡ r → ⊥)
    → region (over xs (r * 256) row) (i * 256) 256 ≡ region xs (i * 256) 256
other_row xs row δ r i size long h k apart =
    let room : r * 256 + length row ≤ length xs = omega (arith, row_end 256 h) in
    let inside : i * 256 + 256 ≤ length xs = omega (arith, row_end 256 k) in
    equal_by_place 256 _ _ (region_length _ (i * 256) 256 (rw (over_length xs (r * 256) row room) inside)) (region_length xs (i * 256) 256 inside)
    (λ c l. region_entry (over xs (r * 256) row) (i * 256) 256 c 0 l
    ∙ over_outside xs (r * 256) row room (i * 256 + c) 0 (λ j b e. apart (same_row i r l (omega arith) e))
    ∙ sym (region_entry xs (i * 256) 256 c 0 l))

module _ {P : ℕ → List ℕ → List ℕ → Type 0} {δ : ℕ} {old : List ℕ} where
  -- before the first row
  pub rows_none : RowsDone P δ old 0 old
  rows_none = record { within = omega arith; kept = refl; done = λ i h. absurd (omega arith); rest = λ i h k. refl }

  -- one more row
  pub rows_more : {r : ℕ} {new next : List ℕ} → length old ≡ δ * 256 → RowsDone P δ old r new → r < δ → RowReplaced (P r) r new next
      → RowsDone P δ old (r + 1) next
  rows_more {r} {new} {next} size s h t =
      let room : r * 256 + length t.row ≤ length new = omega (arith, row_end 256 h, s.kept, t.size) in
      let others : (i : ℕ) → i < δ → (i ≡ r → ⊥) → region next (i * 256) 256 ≡ region new (i * 256) 256 =
      λ i k apart. rw t.placed (other_row new t.row δ r i (s.kept ∙ size) t.size h k apart) in
      record {
        within = omega arith;
        kept = rw t.placed (over_length new (r * 256) t.row room ∙ s.kept);
        done = λ i l.
            elim (eq-or-lt_of_le (le_of_suc-le-suc (rw add-one at l))) [
              | inl last ↦ rw (last, t.placed, region_over_same new (r * 256) t.row room 256 t.size, ← s.rest r (omega arith) h) t.holds
              | inr less ↦ rw (others i (omega arith) (λ e. omega arith)) (s.done i less)
            ];
        rest = λ i l k. others i k (λ e. omega arith) ∙ s.rest i (omega arith) k;
      }

-- what the rows ask stays as they are written
pub rows_ready : {q δ : ℕ} {tables old new : List ℕ} → RowsReady q δ tables old → length new ≡ length old → RowsReady q δ tables new
rows_ready ready kept = record { ready = ready.ready; size = kept ∙ ready.size }

-- the next row is as it was, so that it has what it asks
pub row_given : {q δ r : ℕ} {tables old new : List ℕ} (direction : Direction) → RowsReady q δ tables old → RowsGiven q δ direction old
    → RowsDone (RowAt q direction δ tables) δ old r new → r < δ
    → RowGiven q direction (region tables (r * 256) 256) (region tables (δ * 256) 264) (region new (r * 256) 256)
row_given (Forward by) ready given s h = forward_ready (rows_ready ready s.kept) h given
row_given {r = r} Inverse ready given s h =
    inverse_ready (rows_ready ready s.kept) h (rw (s.rest r (omega arith) h) (part_below (r * 256) 256 given (row_end 256 h)))

-- after the last row
pub rows_turned : {δ r : ℕ} {old new : List ℕ} (q : ℕ) (direction : Direction) (tables : List ℕ) → RowsDone (RowAt q direction δ tables) δ old r new → δ ≤ r
    → RowsTurned q direction δ tables old new
rows_turned q (Forward by) tables s h = record { size = s.kept; rows = λ i l. s.done i (omega arith) }
rows_turned q Inverse tables s h = record { size = s.kept; rows = λ i l. s.done i (omega arith) }
