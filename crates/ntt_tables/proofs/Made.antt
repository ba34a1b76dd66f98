-- The tables that the four steps make, one after the other.
-- Assumes nothing.
use mathlib.Core.Path.{◌≡◌, sym, ap, ◌∙◌}
use mathlib.Core.List.{List}
use Prim.Native.Nat.{ℕ, ◌+◌, ◌-◌, ◌*◌, ◌/◌, ◌%◌, ◌^◌, ◌≤◌, ◌<◌}
use native.Mathlib.Nat.{zero-add, add_assoc, mul-lt-mul_of_pos_left, mul-le-mul_left, mul-le-mul_right, mod-lt, div-add-mod', div-lt_iff_lt-mul}
use native.Mathlib.Numerals.{add-one}
use native.Mathlib.Decide.{dec_lt}
use native.Mathlib.Omega.{arith}
use lib.Arith.{digits_div, digits_mod}
use lib.ListN.{length}
use Rattle.maths.specs.Vector.{at, AllBelow}
use Rattle.maths.specs.Congruence.{Mod}
use Rattle.maths.proofs.Congruence.{mod_remainder}
use Rattle.maths.proofs.Power.{pow_mul}
use Rattle.maths.proofs.PowerTable.{power_table_at}
use Rattle.calls.proofs.Region.{region_entry}
use Rattle.montgomery.specs.Scaled.{unscale, Odd}
use Rattle.ntt_tables.specs.Tables.{tables_length, Powers, Ready, Tables}
use Rattle.ntt_tables.specs.Steps.{Filled, Twisted}
use Rattle.ntt_tables.proofs.Fill.{exponent_below}

-- the numbers before the end of what was filled stay below q
pub filled_below : {q start n : ℕ} {place : ℕ → ℕ} {old new : List ℕ} → Filled q start n place old new → AllBelow q start old → AllBelow q (start + n) new
filled_below {q} {start} {n} {new = new} f below =
    record {
      each = λ i h.
          elim (dec_lt i start) [
            | yes low ↦ rw (f.before i low) (below.each i low)
            | no high ↦ upper i h (omega arith)
          ];
    }
  where
    upper : (i : ℕ) → i < start + n → start ≤ i → at new i < q
    upper i h l =
        let place : start + (i - start) ≡ i = omega arith in
        rw place at (f.below (i - start) (omega arith))

-- the product of a row and a column is a place
product_place_lem : {δ : ℕ} (r c : ℕ) → r < δ → c < 256 → r * c < δ * 256
product_place_lem {δ} r c h k =
    let column : c ≤ 255 = omega arith in
    omega (arith, mul-le-mul_left r column, mul-le-mul_right {m = r + 1} {n = δ} 256 (rw add-one h))

-- a power of w, given as the table of powers has it
table_power : {q δ w : ℕ} {tables : List ℕ} → Powers q δ w tables → (i : ℕ) → i < δ * 256 → at tables i ≡ w ^ i % q
table_power {q} {δ} {w} {tables} p i h =
    rw zero-add at (sym (region_entry tables 0 (δ * 256) i 0 h)) ∙ ap (λ (l : List ℕ). at l i) p.table ∙ power_table_at q w (δ * 256) i h

module _ {q δ : ℕ} {old a b c new : List ℕ} (odd : Odd q) (some : 0 < δ) (few : δ ≤ 16) (size : length old ≡ tables_length δ)
    (below : AllBelow q (δ * 256) old)
    (twist : Filled q (δ * 256) 256 (λ i. δ * (i / 16 * (i % 16))) old a)
    (rows : Filled q (δ * 256 + 256) 8 (λ i. 16 * δ * i) a b)
    (columns : Filled q (δ * 256 + 264) δ (λ i. 256 * i) b c)
    (turned : Twisted δ c new) where
  -- a power stays till the twist
  kept : (i : ℕ) → i < δ * 256 → at c i ≡ at old i
  kept i h = columns.before i (omega arith) ∙ rows.before i (omega arith) ∙ twist.before i h

  -- what stands after the powers is not touched by the twist
  after : (i : ℕ) → δ * 256 ≤ i → at new i ≡ at c i
  after = turned.after

  -- the place that the twist takes the power of place i from
  row_place : (i : ℕ) → i < δ * 256 → i / 256 * (i % 256) < δ * 256
  row_place i h = product_place_lem (i / 256) (i % 256) ((div-lt_iff_lt-mul {k = 256} (omega arith)).1 h) (mod-lt i (omega arith))

  turned_at : (i : ℕ) → i < δ * 256 → at new i ≡ at c (i / 256 * (i % 256))
  turned_at i h = rw div-add-mod' at (turned.values (i / 256) (i % 256) ((div-lt_iff_lt-mul {k = 256} (omega arith)).1 h) (mod-lt i (omega arith)))

  -- all numbers are below q
  pub made_ready : Ready q δ new
  made_ready =
      let first : AllBelow q (δ * 256 + 256) a = filled_below twist below in
      let second : AllBelow q (δ * 256 + 264) b = rw (add_assoc (δ * 256) 256 8) at (filled_below rows first) in
      let all : AllBelow q (δ * 256 + 264 + δ) c = filled_below columns second in
      record {
        modulus = odd;
        some_rows = some;
        few_rows = few;
        size = turned.size ∙ columns.size ∙ rows.size ∙ twist.size ∙ size;
        below = record {
          each = λ i h.
              elim (dec_lt i (δ * 256)) [
                | yes low ↦ rw (turned_at i low) (all.each (i / 256 * (i % 256)) (omega (arith, row_place i low)))
                | no high ↦ rw (after i (omega arith)) (all.each i h)
              ];
        };
      }

  module _ {w : ℕ} (powers : Powers q δ w old) where
    -- an entry of the tables of the rows: the twist
    row_twist : (i : ℕ) → i < 256 → Mod q (unscale q (at new (δ * 256 + i))) ((w ^ δ) ^ (i / 16 * (i % 16)))
    row_twist i h =
        let place : δ * (i / 16 * (i % 16)) < δ * 256 = mul-lt-mul_of_pos_left (exponent_below i h) some in
        let same : at new (δ * 256 + i) ≡ at a (δ * 256 + i) = after _ (omega arith) ∙ columns.before _ (omega arith) ∙ rows.before _ (omega arith) in
        rw (same, twist.values i h, table_power powers _ place, pow_mul) (mod_remainder q _)

    -- the columns within a row
    row_root : (i : ℕ) → i < 8 → Mod q (unscale q (at new (δ * 256 + (256 + i)))) ((w ^ δ) ^ (16 * i))
    row_root i h =
        let near : δ * (16 * i) < δ * 256 = mul-lt-mul_of_pos_left {m = 16 * i} {n = 256} (omega arith) some in
        let place : 16 * δ * i ≡ δ * (16 * i) = omega arith in
        let spot : δ * 256 + (256 + i) ≡ δ * 256 + 256 + i = omega arith in
        let same : at new (δ * 256 + (256 + i)) ≡ at b (δ * 256 + 256 + i) = rw spot (after _ (omega arith) ∙ columns.before _ (omega arith)) in
        rw (same, rows.values i h, place, twist.before (δ * (16 * i)) near, table_power powers (δ * (16 * i)) near, pow_mul) (mod_remainder q _)

    -- the columns
    column_root : (j : ℕ) → j < δ → Mod q (unscale q (at new (δ * 256 + 264 + j))) ((w ^ 256) ^ j)
    column_root j h =
        let near : 256 * j < δ * 256 = omega arith in
        rw (
          after (δ * 256 + 264 + j) (omega arith),
          columns.values j h,
          rows.before (256 * j) (omega arith),
          twist.before (256 * j) near,
          table_power powers (256 * j) near,
          pow_mul,
        ) (mod_remainder q _)

    -- what the four steps make of the powers of w
    pub made_tables : Tables q δ w new
    made_tables =
        record {
          twist = λ r n h k.
              let place : r * n < δ * 256 = product_place_lem r n h k in
              turned.values r n h k ∙ kept (r * n) place ∙ table_power powers (r * n) place;
          row = record {
            twist = λ i j h k.
                let spot : 16 * i + j ≡ i * 16 + j = omega arith in
                let near : i * 16 + j < 256 = omega arith in
                rw (spot, region_entry new (δ * 256) 264 (i * 16 + j) 0 (omega arith)) (rw (digits_div i k, digits_mod i k) at (row_twist (i * 16 + j) near));
            columns = λ i h. rw (region_entry new (δ * 256) 264 (256 + i) 0 (omega arith)) (row_root i h);
            minus = rw pow_mul powers.half;
          };
          columns = column_root;
          whole = powers.whole;
        }
