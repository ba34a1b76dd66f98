-- The invariant of the loop over the rows of a block, four rows a turn: the sums of the first n rows, and the place of the next factor.
-- Assumes nothing.
use mathlib.Core.Path.{◌≡◌, refl, sym, ap, ◌∙◌}
use mathlib.Core.List.{List}
use Prim.Native.Nat.{ℕ, ◌+◌, ◌-◌, ◌*◌, ◌%◌, ◌≤◌, ◌<◌}
use native.Mathlib.Nat.{mod-add-mod, mod-lt, mod-eq_of_lt, mul-suc, mul-zero, zero-mul, zero-add, add-zero, mul-le-mul_left}
use native.Mathlib.Numerals.{add-one}
use native.Mathlib.Omega.{arith}
use lib.ListN.{length, replicate, length-replicate, get_or-replicate}
use Rattle.maths.specs.Vector.{at}
use Rattle.maths.specs.Sum as sums
use Rattle.maths.specs.Sum.{sum}
use Rattle.maths.specs.Congruence.{Mod}
use Rattle.maths.proofs.Sum.{sum_none, sum_split, sum_cong, sum_pad}
use Rattle.maths.proofs.Congruence.{mod_refl, mod_eq, mod_trans, mod_add}
use Rattle.calls.specs.Region.{region}
use Rattle.calls.proofs.Region.{region_length, region_entry}
use Rattle.montgomery.specs.Scaled.{unscale, Odd}
use Rattle.ntt_columns.specs.Columns.{column_sum}
use Rattle.ntt_columns.specs.Blocks.{four_products_of, AddReady, Added, SumsReady, Sums}

-- four terms more
sum_four : (n : ℕ) (f : ℕ → ℕ) → sum (n + 4) f ≡ sum n f + (f n + f (n + 1) + f (n + 2) + f (n + 3))
unfolding sums.sum
sum_four n f = sum_split n 4 f ∙ simp (zero-add, add-zero)

-- columns with the same numbers have the same values
pub column_sum_cong : (q : ℕ) (factors : List ℕ) (δ m : ℕ) (x y : ℕ → ℕ) (r : ℕ) → ((n : ℕ) → n < m → x n ≡ y n)
    → column_sum q factors δ m x r ≡ column_sum q factors δ m y r
unfolding column_sum
column_sum_cong q factors δ m x y r e = sum_cong m _ _ (λ n h. rw (e n h))

-- one place further in the table
pub next_place : (δ r n next place after : ℕ) → next ≡ n + 1 → place ≡ r * n % δ → after ≡ (place + r) % δ → after ≡ r * next % δ
next_place δ r n next place after s e a = rw (s, a, e, mod-add-mod, add-one, mul-suc)

-- the sums of the first n rows, and the place of the factor of row n
pub record Summing (q m r δ : ℕ) (factors block : List ℕ) (n place : ℕ) (sums : List ℕ) : Type 0 where
  pub within : n ≤ m + 3
  pub fours : n % 4 ≡ 0
  pub size : length sums ≡ 64
  pub next : place ≡ r * n % δ
  pub next_below : place < δ
  pub values : (j : ℕ) → j < 64 → Mod q (at sums j) (column_sum q factors δ n (λ i. at block (64 * i + j)) r)
  pub below : (j : ℕ) → j < 64 → 4 * at sums j ≤ (2 * q - 1) * n

-- a number that each four rows raise by at most p, after up to 16 rows
few_turns : (p s n : ℕ) → 4 * s ≤ p * n → n ≤ 16 → s ≤ 4 * p
few_turns p s n h k = omega (arith, mul-le-mul_left p k)

-- and after four rows more
one_turn : (p s t n : ℕ) → 4 * s ≤ p * n → t ≤ s + p → 4 * t ≤ p * (n + 4)
one_turn p s t n h k = omega arith

-- a number of four rows of a block
part_at : (block : List ℕ) (n i j l : ℕ) → l ≡ j + 64 * i → l < 256 → at (region block (64 * n) 256) l ≡ at block (64 * (n + i) + j)
part_at block n i j l e h =
    let place : 64 * n + l ≡ 64 * (n + i) + j = omega arith in
    region_entry block (64 * n) 256 l 0 h ∙ ap (at block) place

module _ {q m r δ : ℕ} {factors block old : List ℕ} (ready : SumsReady q m r δ factors block old) where
  -- before the first row
  pub summing_none : {sums : List ℕ} → sums ≡ replicate (length old) 0 → Summing q m r δ factors block 0 0 sums
  unfolding column_sum
  summing_none {sums} e =
      let zero : (j : ℕ) → j < 64 → at sums j ≡ 0 = λ j h. rw (e, ready.sums_size) (get_or-replicate 64 j 0 0 h) in
      record {
        within = omega arith;
        fours = refl;
        size = ap length e ∙ length-replicate (length old) 0 ∙ ready.sums_size;
        next = rw mul-zero (sym (mod-eq_of_lt (omega (arith, ready.row_below))));
        next_below = omega (arith, ready.row_below);
        values = λ j h. rw (zero j h, sum_none) (mod_refl 0);
        below = λ j h. rw (zero j h) (omega arith);
      }

  module _ {n place : ℕ} {sums : List ℕ} (s : Summing q m r δ factors block n place sums) where
    -- never more than 16 rows
    pub rows_most : n ≤ 16
    rows_most = omega (arith, s.within, s.fours, ready.read, ready.few_rows)

    -- each sum is small
    pub sum_small : (j : ℕ) → j < 64 → at sums j ≤ 4 * (2 * q - 1)
    sum_small j h = few_turns (2 * q - 1) (at sums j) n (s.below j h) rows_most

    -- four rows are there
    pub rows_inside : n < m → n + 4 ≤ 16
    rows_inside h = omega (arith, s.fours, ready.read, ready.few_rows)

    -- all that the next four rows ask
    pub add_ready : {second third fourth : ℕ} → Odd q → n < m → second < δ → third < δ → fourth < δ
        → AddReady q (at factors place) (at factors second) (at factors third) (at factors fourth) sums (region block (64 * n) 256)
    add_ready {second} {third} {fourth} odd h a b c =
        let inside : 64 * n + 256 ≤ length block = omega (arith, rows_inside h, ready.size) in
        let below = ready.factors_below in
        record {
          sums_size = s.size;
          room = record { each = λ j l. omega (arith, sum_small j l, odd.small) };
          size = region_length block (64 * n) 256 inside;
          numbers = record {
            each = λ i l. rw (region_entry block (64 * n) 256 i 0 l) (ready.numbers.each (64 * n + i) (omega (arith, rows_inside h)));
          };
          factors = record {
            first = below.each place s.next_below;
            second = below.each second a;
            third = below.each third b;
            fourth = below.each fourth c;
          };
        }

    -- after the last row: the rows past m are zeros
    pub summing_all : Odd q → m ≤ n → Sums q m r δ factors block sums
    unfolding column_sum
    summing_all odd h =
        record {
          values = λ j l.
              mod_trans (s.values j l)
              (mod_eq (sum_pad m n _ h (λ i a b. rw (ready.zeros (64 * i + j) (omega arith), zero-mul))));
          below = record { each = λ j l. omega (arith, sum_small j l, odd.some) };
        }

    module _ {second third fourth after : ℕ} (to-second : second ≡ (place + r) % δ) (to-third : third ≡ (second + r) % δ)
        (to-fourth : fourth ≡ (third + r) % δ) (to-after : after ≡ (fourth + r) % δ) where
      -- the places of the four factors
      second_is : second ≡ r * (n + 1) % δ
      second_is = next_place δ r n (n + 1) place second refl s.next to-second

      third_is : third ≡ r * (n + 2) % δ
      third_is = next_place δ r (n + 1) (n + 2) second third (omega arith) second_is to-third

      fourth_is : fourth ≡ r * (n + 3) % δ
      fourth_is = next_place δ r (n + 2) (n + 3) third fourth (omega arith) third_is to-fourth

      -- four terms of the sum of a column
      four_terms : (j : ℕ) → j < 64
          → column_sum q factors δ n (λ i. at block (64 * i + j)) r
          + four_products_of (region block (64 * n) 256) j (unscale q (at factors place)) (unscale q (at factors second)) (unscale q (at factors third))
          (unscale q (at factors fourth)) ≡ column_sum q factors δ (n + 4) (λ i. at block (64 * i + j)) r
      unfolding column_sum four_products_of
      four_terms j h =
          let first : at (region block (64 * n) 256) j ≡ at block (64 * n + j) = region_entry block (64 * n) 256 j 0 (omega arith) in
          sym (sum_four n _ ∙ rw (
            first,
            part_at block n 1 j (j + 64) refl (omega arith),
            part_at block n 2 j (j + 128) refl (omega arith),
            part_at block n 3 j (j + 192) refl (omega arith),
            s.next,
            second_is,
            third_is,
            fourth_is,
          ))

      -- four rows more
      pub summing_more : {new : List ℕ} → n < m → length new ≡ length sums
          → Added q (at factors place) (at factors second) (at factors third) (at factors fourth) (region block (64 * n) 256) sums new
          → Summing q m r δ factors block (n + 4) after new
      summing_more {new} h kept added =
          record {
            within = omega arith;
            fours = omega (arith, s.fours);
            size = kept ∙ s.size;
            next = next_place δ r (n + 3) (n + 4) fourth after (omega arith) fourth_is to-after;
            next_below = rw to-after (mod-lt (fourth + r) (omega (arith, ready.row_below)));
            values = λ j l. mod_trans (added.values j l) (mod_trans (mod_add (s.values j l) (mod_refl _)) (mod_eq (four_terms j l)));
            below = λ j l. one_turn (2 * q - 1) (at sums j) (at new j) n (s.below j l) (omega (arith, added.below j l));
          }
