-- The invariants of the loop over the values of 64 columns, and of the loop over the four blocks of columns.
-- Assumes nothing.
use mathlib.Core.Path.{◌≡◌, refl, ap, ◌∙◌}
use mathlib.Core.List.{List}
use mathlib.Core.Logic.{inl, inr}
use Prim.Native.Nat.{ℕ, ◌+◌, ◌-◌, ◌*◌, ◌/◌, ◌%◌, ◌≤◌, ◌<◌}
use native.Mathlib.Nat.{eq-or-lt_of_le, le_of_suc-le-suc}
use native.Mathlib.Numerals.{add-one}
use native.Mathlib.Decide.{dec_lt}
use native.Mathlib.Omega.{arith}
use lib.ListN.{length}
use Rattle.maths.specs.Vector.{at}
use Rattle.maths.specs.Congruence.{Mod}
use Rattle.maths.proofs.Congruence.{mod_eq, mod_trans}
use Rattle.calls.specs.Region.{over}
use Rattle.calls.proofs.Region.{over_length, over_inside, over_outside}
use Rattle.ntt_columns.specs.Columns.{column_sum, ColumnsReady, Columns}
use Rattle.ntt_columns.specs.Blocks.{SumsReady, Sums, LoadReady, Loaded, ZerosFrom, BlockReady, Block}
use Rattle.ntt_columns.proofs.Summing.{column_sum_cong}
use Rattle.ntt_columns.proofs.Loading.{loaded_zeros, loaded_below}

-- the values that are written after r turns
pub record Storing (q m δ b : ℕ) (factors old : List ℕ) (r : ℕ) (new : List ℕ) : Type 0 where
  pub kept : length new ≡ length old
  pub values : (i j : ℕ) → i < r → j < 64 → Mod q (at new (i * 256 + (64 * b + j))) (column_sum q factors δ m (λ n. at old (n * 256 + (64 * b + j))) i)
  pub below : (i j : ℕ) → i < r → j < 64 → at new (i * 256 + (64 * b + j)) < 8 * q
  pub others : (p : ℕ) → ((i j : ℕ) → i < r → j < 64 → p ≡ i * 256 + (64 * b + j) → ⊥) → at new p ≡ at old p

module _ {q m out δ b : ℕ} {factors old : List ℕ} (ready : BlockReady q m out δ b factors old) where
  -- what the copy of the columns asks
  pub load_ready : {block : List ℕ} → length block ≡ 1024 → LoadReady b m block old
  load_ready size =
      record {
        block_below = ready.block_below;
        short = omega (arith, ready.read, ready.few_rows);
        size = size;
        inside = omega (arith, ready.read, ready.size);
      }

  -- before the first value
  pub storing_none : Storing q m δ b factors old 0 old
  storing_none =
      record {
        kept = refl;
        values = λ i j h l. absurd (omega arith);
        below = λ i j h l. absurd (omega arith);
        others = λ p h. refl;
      }

  -- after the last value
  pub storing_all : {r : ℕ} {new : List ℕ} → Storing q m δ b factors old r new → r ≤ out → out ≤ r → Block q m out δ b factors old new
  storing_all s h l =
      record {
        values = λ i j a k. s.values i j (omega arith) k;
        below = λ i j a k. s.below i j (omega arith) k;
        others = λ p n. s.others p (λ i j a t e. n i j (omega arith) t e);
      }

  module _ {block lent : List ℕ} (loaded : Loaded b m old lent block) where
    -- what the sums of row r ask
    pub sums_ready : {sums : List ℕ} {r : ℕ} → ZerosFrom m lent → length block ≡ 1024 → length sums ≡ 64 → r < out
        → SumsReady q m r δ factors block sums
    sums_ready zeros size sums_size h =
        record {
          few_rows = ready.few_rows;
          read = ready.read;
          row_below = omega (arith, ready.written);
          sums_size = sums_size;
          size = size;
          factors_size = ready.factors_size;
          factors_below = ready.factors_below;
          numbers = loaded_below loaded zeros 1024 ready.numbers;
          zeros = loaded_zeros loaded zeros;
        }

    module _ {r : ℕ} {new : List ℕ} (sums : List ℕ) (s : Storing q m δ b factors old r new) (h : r < out) (sums_size : length sums ≡ 64) where
      -- there is room for a row of values
      pub values_room : 256 * r + 64 * b + length sums ≤ length new
      values_room = omega (arith, s.kept, ready.size, ready.written, ready.block_below)

      module _ {next : List ℕ} (e : next ≡ over new (256 * r + 64 * b) sums) where
        -- a value that is written
        value_here : (j : ℕ) → j < 64 → at next (r * 256 + (64 * b + j)) ≡ at sums j
        value_here j l =
            let place : r * 256 + (64 * b + j) ≡ 256 * r + 64 * b + j = omega arith in
            rw (e, place) (over_inside new (256 * r + 64 * b) sums values_room j 0 (omega arith))

        -- all other places
        place_away : (p : ℕ) → ((j : ℕ) → j < 64 → p ≡ 256 * r + 64 * b + j → ⊥) → at next p ≡ at new p
        place_away p n = rw e (over_outside new (256 * r + 64 * b) sums values_room p 0 (λ j l w. n j (omega arith) w))

        -- one more row of values
        pub storing_more : Sums q m r δ factors block sums → Storing q m δ b factors old (r + 1) next
        storing_more given =
            let few = ready.block_below in
            record {
              kept = ap length e ∙ over_length new (256 * r + 64 * b) sums values_room ∙ s.kept;
              values = λ i j l t.
                  elim (eq-or-lt_of_le (le_of_suc-le-suc (rw add-one at l))) [
                    | inl last ↦ rw (last, value_here j t) (mod_trans (given.values j t)
                        (mod_eq (column_sum_cong q factors δ m _ _ r (λ n a. loaded.rows n j a t))))
                    | inr before ↦ rw (place_away (i * 256 + (64 * b + j)) (λ z a w. omega arith)) (s.values i j before t)
                  ];
              below = λ i j l t.
                  elim (eq-or-lt_of_le (le_of_suc-le-suc (rw add-one at l))) [
                    | inl last ↦ rw (last, value_here j t) (given.below.each j t)
                    | inr before ↦ rw (place_away (i * 256 + (64 * b + j)) (λ z a w. omega arith)) (s.below i j before t)
                  ];
              others = λ p n.
                  place_away p (λ j l w. n r j (omega arith) l (omega arith)) ∙ s.others p (λ i j l t w. n i j (omega arith) t w);
            }

-- what holds for each column of a block
in_block : (P : ℕ → Type 0) (b c : ℕ) → 64 * b ≤ c → c < 64 * (b + 1) → ((j : ℕ) → j < 64 → P (64 * b + j)) → P c
in_block P b c l t each =
    let place : 64 * b + (c - 64 * b) ≡ c = omega arith in
    rw place at (each (c - 64 * b) (omega arith))

-- the columns that are transformed after b blocks
pub record ColumnsDone (q m out δ : ℕ) (factors old : List ℕ) (b : ℕ) (new : List ℕ) : Type 0 where
  pub within : b ≤ 4
  pub kept : length new ≡ length old
  pub values : (r c : ℕ) → r < out → c < 64 * b → Mod q (at new (r * 256 + c)) (column_sum q factors δ m (λ n. at old (n * 256 + c)) r)
  pub below : (r c : ℕ) → r < out → c < 64 * b → at new (r * 256 + c) < 8 * q
  pub rest : (r c : ℕ) → c < 256 → (r < out → 64 * b ≤ c) → at new (r * 256 + c) ≡ at old (r * 256 + c)

module _ {q m out δ : ℕ} {factors old : List ℕ} (ready : ColumnsReady q m out δ factors old) where
  -- before the first block
  pub columns_none : ColumnsDone q m out δ factors old 0 old
  columns_none =
      record {
        within = omega arith;
        kept = refl;
        values = λ r c h l. absurd (omega arith);
        below = λ r c h l. absurd (omega arith);
        rest = λ r c h l. refl;
      }

  module _ {b : ℕ} {new : List ℕ} (s : ColumnsDone q m out δ factors old b new) (h : b < 4) where
    -- the columns of the next block are as they were
    pub block_ready : BlockReady q m out δ b factors new
    block_ready =
        record {
          few_rows = ready.few_rows;
          read = ready.read;
          written = ready.written;
          block_below = h;
          size = s.kept ∙ ready.size;
          factors_size = ready.factors_size;
          factors_below = ready.factors_below;
          numbers = λ n j l t.
              rw (s.rest n (64 * b + j) (omega arith) (λ a. omega arith)) (ready.numbers.each (n * 256 + (64 * b + j)) (omega arith));
        }

    -- and have the same sums
    same_sums : (r j : ℕ) → j < 64
        → column_sum q factors δ m (λ n. at new (n * 256 + (64 * b + j))) r ≡ column_sum q factors δ m (λ n. at old (n * 256 + (64 * b + j))) r
    same_sums r j t = column_sum_cong q factors δ m _ _ r (λ n a. s.rest n (64 * b + j) (omega arith) (λ z. omega arith))

    -- the columns before the block are left as they were
    columns_kept : {next : List ℕ} → Block q m out δ b factors new next → (r c : ℕ) → c < 64 * b → at next (r * 256 + c) ≡ at new (r * 256 + c)
    columns_kept block r c l = block.others (r * 256 + c) (λ i j a t w. omega arith)

    -- one more block
    pub columns_more : {next : List ℕ} → length next ≡ length new → Block q m out δ b factors new next → ColumnsDone q m out δ factors old (b + 1) next
    columns_more {next} kept block =
        record {
          within = omega arith;
          kept = kept ∙ s.kept;
          values = λ r c l t.
              elim (dec_lt c (64 * b)) [
                | yes low ↦ rw (columns_kept block r c low) (s.values r c l low)
                | no high ↦ in_block (λ c. Mod q (at next (r * 256 + c)) (column_sum q factors δ m (λ n. at old (n * 256 + c)) r)) b c (omega arith) t
                    (λ j a. mod_trans (block.values r j l a) (mod_eq (same_sums r j a)))
              ];
          below = λ r c l t.
              elim (dec_lt c (64 * b)) [
                | yes low ↦ rw (columns_kept block r c low) (s.below r c l low)
                | no high ↦ in_block (λ c. at next (r * 256 + c) < 8 * q) b c (omega arith) t (λ j a. block.below r j l a)
              ];
          rest = λ r c l t. block.others (r * 256 + c) (λ i j a z w. omega (arith, t (omega arith))) ∙ s.rest r c l (λ z. omega (arith, t z));
        }

  -- after the last block
  pub columns_all : {b : ℕ} {new : List ℕ} → ColumnsDone q m out δ factors old b new → 4 ≤ b → Columns q m out δ factors old new
  columns_all {b} {new} s h =
      record {
        values = λ r c l t. s.values r c l (omega arith);
        below = record {
          each = λ i l.
              let place : i / 256 * 256 + i % 256 ≡ i = omega arith in
              rw place at (s.below (i / 256) (i % 256) (omega arith) (omega arith));
        };
        others = λ i l.
            let place : i / 256 * 256 + i % 256 ≡ i = omega arith in
            rw place at (s.rest (i / 256) (i % 256) (omega arith) (λ z. absurd (omega arith)));
      }
