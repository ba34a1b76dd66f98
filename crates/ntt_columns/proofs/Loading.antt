-- The invariant of the loop that copies the rows of 64 columns to a block, and what the block then is.
-- Assumes nothing.
use mathlib.Core.Path.{◌≡◌, ap, ◌∙◌}
use mathlib.Core.List.{List}
use mathlib.Core.Logic.{inl, inr}
use Prim.Native.Nat.{ℕ, ◌+◌, ◌*◌, ◌/◌, ◌%◌, ◌^◌, ◌≤◌, ◌<◌}
use native.Mathlib.Nat.{eq-or-lt_of_le, le_of_suc-le-suc}
use native.Mathlib.Numerals.{add-one}
use native.Mathlib.Decide.{dec_lt}
use native.Mathlib.Omega.{arith}
use lib.ListN.{length, replicate, length-replicate, get_or-replicate}
use Rattle.maths.specs.Vector.{at, AllBelow}
use Rattle.maths.proofs.Vector.{at_past}
use Rattle.calls.specs.Region.{region, over}
use Rattle.calls.proofs.Region.{region_length, region_entry, over_length, over_inside, over_outside}
use Rattle.ntt_columns.specs.Blocks.{LoadReady, Loaded, ZerosFrom}

-- the rows that are copied after n turns
pub record Loading (b m : ℕ) (x old : List ℕ) (n : ℕ) (new : List ℕ) : Type 0 where
  pub within : n ≤ m
  pub kept : length new ≡ length old
  pub rows : (i j : ℕ) → i < n → j < 64 → at new (64 * i + j) ≡ at x (i * 256 + (64 * b + j))
  pub rest : (i : ℕ) → 64 * n ≤ i → at new i ≡ at old i

module _ {b m : ℕ} {x old : List ℕ} (ready : LoadReady b m old x) where
  module _ {n : ℕ} {new : List ℕ} (s : Loading b m x old n new) (h : n < m) where
    -- the next row lies inside x
    pub row_inside : 256 * n + 64 * b + 64 ≤ length x
    row_inside = omega (arith, ready.inside, ready.block_below)

    -- and there is room for it
    pub row_room : 64 * n + 64 ≤ length new
    row_room = omega (arith, ready.short, ready.size, s.kept)

    -- one more row
    pub loading_more : {next : List ℕ} → next ≡ over new (64 * n) (region x (256 * n + 64 * b) 64) → Loading b m x old (n + 1) next
    loading_more {next} e =
        let row = region x (256 * n + 64 * b) 64 in
        let size : length row ≡ 64 = region_length x (256 * n + 64 * b) 64 row_inside in
        let fits : 64 * n + length row ≤ length new = omega (arith, row_room) in
        let place : (j : ℕ) → 256 * n + 64 * b + j ≡ n * 256 + (64 * b + j) = λ j. omega arith in
        record {
          within = omega arith;
          kept = ap length e ∙ over_length new (64 * n) row fits ∙ s.kept;
          rows = λ i j l k.
              elim (eq-or-lt_of_le (le_of_suc-le-suc (rw add-one at l))) [
                | inl last ↦ rw (last, e) (over_inside new (64 * n) row fits j 0 (omega arith)
                    ∙ region_entry x (256 * n + 64 * b) 64 j 0 k ∙ ap (at x) (place j))
                | inr before ↦ rw e (over_outside new (64 * n) row fits (64 * i + j) 0 (λ t a w. omega arith)) ∙ s.rows i j before k
              ];
          rest = λ i l. rw e (over_outside new (64 * n) row fits i 0 (λ t a w. omega arith)) ∙ s.rest i (omega arith);
        }

  -- after the last row
  pub loading_all : {n : ℕ} {new : List ℕ} → Loading b m x old n new → m ≤ n → Loaded b m x old new
  loading_all s h = record { rows = λ i j l k. s.rows i j (omega arith) k; rest = λ i l. s.rest i (omega (arith, s.within)) }

-- a list of zeros, and what is past its end
pub zeros_at : (n i : ℕ) → at (replicate n 0) i ≡ 0
zeros_at n i =
    elim (dec_lt i n) [
      | yes low ↦ get_or-replicate n i 0 0 low
      | no high ↦ at_past (replicate n 0) i (rw length-replicate (omega arith))
    ]

module _ {b m : ℕ} {x old block : List ℕ} (loaded : Loaded b m x old block) (zeros : ZerosFrom m old) where
  -- the rows from m on are zeros
  pub loaded_zeros : (i : ℕ) → 64 * m ≤ i → at block i ≡ 0
  loaded_zeros i h = loaded.rest i h ∙ zeros.zeros i h

  -- the numbers of the block are small where those of the columns are
  pub loaded_below : (room : ℕ) → ((n j : ℕ) → n < m → j < 64 → at x (n * 256 + (64 * b + j)) < 2 ^ 25) → AllBelow (2 ^ 25) room block
  loaded_below room small =
      record {
        each = λ i h.
            elim (dec_lt i (64 * m)) [
              | yes low ↦
                  let place : i ≡ 64 * (i / 64) + i % 64 = omega arith in
                  rw (ap (at block) place ∙ loaded.rows (i / 64) (i % 64) (omega arith) (omega arith)) (small (i / 64) (i % 64) (omega arith) (omega arith))
              | no high ↦ rw (loaded_zeros i (omega arith)) (omega arith)
            ];
      }
