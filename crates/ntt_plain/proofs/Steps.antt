-- Laws of the transform by written-out sums: lengths and places of its steps, and that the steps make what 003 stores, and bring it back.
-- Assumes nothing.
use mathlib.Core.Path.{◌≡◌, sym, ap, ◌∙◌}
use mathlib.Core.List.{List}
use Prim.Native.Nat.{ℕ, ◌+◌, ◌*◌, ◌/◌, ◌%◌, ◌^◌, ◌≤◌, ◌<◌}
use native.Mathlib.Nat.{add_comm, mul_comm, one-mul, div-add-mod', div-lt_iff_lt-mul, mod-lt}
use native.Mathlib.Nat.{mod-eq_of_lt, le_of_lt, lt_of_le_of_lt, mul-le-mul_left, mul-lt-mul_of_pos_right}
use native.Mathlib.Omega.{arith}
use lib.Arith.{digits_lt, digits_div, digits_mod}
use lib.ListN.{length}
use Rattle.maths.specs.Vector.{at, tabulate, AllBelow}
use Rattle.maths.specs.Congruence.{Mod}
use Rattle.maths.specs.Root.{power_table}
use Rattle.maths.specs.Transform as maths
use Rattle.maths.specs.Transform.{transform_at, send, recover}
use Rattle.maths.proofs.Vector.{tabulate_length, tabulate_at, equal_by_place}
use Rattle.maths.proofs.Congruence.{mod_refl, mod_eq, mod_trans, mod_mul, mod_sum, mod_remainder}
use Rattle.maths.proofs.Power.{pow_mul}
use Rattle.maths.proofs.PowerTable.{power_table_at}
use Rattle.maths.proofs.Split.{power_round}
use Rattle.maths.proofs.Convolution.{transform_mod}
use Rattle.maths.proofs.Transform.{send_length, send_columns_rows, recover_length, recover_rows_columns}
use Rattle.ntt_plain.specs.Plain.{strided_sum_of, Summable, columns, twisted, rows, Plain}

-- each number times e
unfoldable pub scaled : ℕ → ℕ → List ℕ → List ℕ
scaled q e x = tabulate (length x) (λ i. e * at x i % q)

pub columns_length : (q ρ m places : ℕ) (powers x : List ℕ) → length (columns q ρ m places powers x) ≡ places
unfolding columns
columns_length q ρ m places powers x = tabulate_length places _

pub twisted_length : (q ρ : ℕ) (powers x : List ℕ) → length (twisted q ρ powers x) ≡ length x
unfolding twisted
twisted_length q ρ powers x = tabulate_length (length x) _

pub rows_length : (q ρ δ : ℕ) (powers x : List ℕ) → length (rows q ρ δ powers x) ≡ length x
unfolding rows
rows_length q ρ δ powers x = tabulate_length (length x) _

pub scaled_length : (q e : ℕ) (x : List ℕ) → length (scaled q e x) ≡ length x
unfolding scaled
scaled_length q e x = tabulate_length (length x) _

-- each step at a place
pub columns_at : (q ρ m places : ℕ) (powers x : List ℕ) (i : ℕ) → i < places
    → at (columns q ρ m places powers x) i ≡ strided_sum_of x (i % ρ) ρ m powers (i / ρ * ρ) % q
unfolding columns
columns_at q ρ m places powers x i h = tabulate_at places _ i h

pub twisted_at : (q ρ : ℕ) (powers x : List ℕ) (i : ℕ) → i < length x → at (twisted q ρ powers x) i ≡ at x i * at powers (i / ρ * (i % ρ)) % q
unfolding twisted
twisted_at q ρ powers x i h = tabulate_at (length x) _ i h

pub rows_at : (q ρ δ : ℕ) (powers x : List ℕ) (i : ℕ) → i < length x → at (rows q ρ δ powers x) i ≡ strided_sum_of x (i / ρ * ρ) 1 ρ powers (i % ρ * δ) % q
unfolding rows
rows_at q ρ δ powers x i h = tabulate_at (length x) _ i h

pub scaled_at : (q e : ℕ) (x : List ℕ) (i : ℕ) → i < length x → at (scaled q e x) i ≡ e * at x i % q
unfolding scaled
scaled_at q e x i h = tabulate_at (length x) _ i h

-- the length of what stands between columns and rows
columns_twisted_length : (q ρ m places : ℕ) (powers x : List ℕ) → length (twisted q ρ powers (columns q ρ m places powers x)) ≡ places
columns_twisted_length q ρ m places powers x = twisted_length q ρ powers _ ∙ columns_length q ρ m places powers x

-- a row times a column is below the size
product_below_sizes : {δ ρ r c : ℕ} → r < δ → c < ρ → r * c < δ * ρ
product_below_sizes {δ} {ρ} {r} {c} h k = lt_of_le_of_lt (mul-le-mul_left r (le_of_lt k)) (mul-lt-mul_of_pos_right h (omega arith))

-- two vectors of n rows that agree in each row and column are equal
equal_by_row : (n ρ : ℕ) (xs ys : List ℕ) → length xs ≡ n * ρ → length ys ≡ n * ρ → 0 < ρ
    → ((r c : ℕ) → r < n → c < ρ → at xs (r * ρ + c) ≡ at ys (r * ρ + c)) → xs ≡ ys
equal_by_row n ρ xs ys k l some e =
    equal_by_place (n * ρ) xs ys k l (λ i h. rw div-add-mod' at (e (i / ρ) (i % ρ) ((div-lt_iff_lt-mul some).1 h) (mod-lt i some)))

-- a row's first place is not behind the place
pub row_start : (ρ i : ℕ) → i / ρ * ρ ≤ i
row_start ρ i = omega (arith, div-add-mod' i ρ)

-- a row times a column is not behind the place
pub exponent_below : (ρ i : ℕ) → 0 < ρ → i / ρ * (i % ρ) ≤ i
exponent_below ρ i some = omega (arith, mul-le-mul_left (i / ρ) (le_of_lt (mod-lt i some)), row_start ρ i)

module _ {q ρ : ℕ} {powers x : List ℕ} (plain : Plain q ρ powers x) where
  -- the sum of a column may be written out
  pub column_summable : (m i : ℕ) → length x ≡ m * ρ → i < length powers → Summable x (i % ρ) ρ m powers (i / ρ * ρ)
  column_summable m i long h =
      record {
        places = λ j l. rw (long, add_comm (i % ρ) (ρ * j), mul_comm ρ j) (digits_lt l (mod-lt i plain.some_columns));
        room = omega (arith, plain.size, plain.few);
        few = omega (arith, mul-le-mul_left m plain.some_columns, plain.size, plain.few);
        short = omega (arith, plain.columns_fit, plain.few);
        some_powers = omega (arith, row_start ρ i);
        few_powers = omega (arith, plain.few);
        numbers = record { each = λ j l. omega (arith, plain.numbers.each j l, plain.modulus.small) };
        factors = record { each = λ j l. omega (arith, plain.factors.each j l, plain.modulus.small) };
      }

  -- the sum of a row may be written out
  pub row_summable : (δ i : ℕ) → length x ≡ δ * ρ → length powers ≡ length x → i < length x → Summable x (i / ρ * ρ) 1 ρ powers (i % ρ * δ)
  row_summable δ i long same h =
      let row : i / ρ < δ = (div-lt_iff_lt-mul plain.some_columns).1 (rw long at h) in
      record {
        places = λ j l. rw (one-mul, long) (digits_lt row l);
        room = omega (arith, plain.size, plain.few);
        few = omega (arith, plain.columns_fit, plain.few);
        short = omega arith;
        some_powers = rw (same, long, mul_comm δ ρ) (mul-lt-mul_of_pos_right (mod-lt i plain.some_columns) (omega arith));
        few_powers = omega (arith, plain.few);
        numbers = record { each = λ j l. omega (arith, plain.numbers.each j l, plain.modulus.small) };
        factors = record { each = λ j l. omega (arith, plain.factors.each j l, plain.modulus.small) };
      }

  -- other numbers, in the same rows
  pub plain_of : {y : List ℕ} → length y ≤ length powers → AllBelow (2 * q) (length y) y → Plain q ρ powers y
  plain_of fits below =
      record {
        modulus = plain.modulus;
        some_columns = plain.some_columns;
        columns_fit = plain.columns_fit;
        size = fits;
        few = plain.few;
        numbers = below;
        factors = plain.factors;
      }

-- a root's powers in rows of ρ
pub record RootPowers (q ρ δ w : ℕ) (powers : List ℕ) : Type 0 where
  pub some_columns : 0 < ρ
  pub size : length powers ≡ δ * ρ
  pub table : powers ≡ power_table q w (length powers)
  pub whole : Mod q (w ^ length powers) 1

module _ {q ρ δ w : ℕ} {powers : List ℕ} (root : RootPowers q ρ δ w powers) where
  -- a power whose exponent goes round
  power_at : {r : ℕ} → r < δ → (t : ℕ) → Mod q (at powers (t % length powers)) (w ^ t)
  power_at {r} h t =
      let some : 0 < length powers = rw root.size (omega (arith, digits_lt h root.some_columns)) in
      let entry : at powers (t % length powers) ≡ w ^ (t % length powers) % q =
      ap (λ (l : List ℕ). at l (t % length powers)) root.table ∙ power_table_at q w _ _ (mod-lt t some) in
      rw entry (mod_trans (mod_remainder q _) (power_round w (length powers) t root.whole))

  -- the sum of a column is a value of its transform
  column_sum_lem : (x : List ℕ) (m r c : ℕ) → r < δ → Mod q (strided_sum_of x c ρ m powers (r * ρ)) (transform_at m (w ^ ρ) (λ j. at x (ρ * j + c)) r)
  unfolding strided_sum_of maths.transform_at
  column_sum_lem x m r c h =
      mod_sum m _ _
      (λ j l.
      let exponent : ρ * (r * j) ≡ r * ρ * j = omega arith in
      mod_mul (mod_eq (ap (at x) (add_comm c (ρ * j)))) (rw (pow_mul, exponent) (power_at h (r * ρ * j))))

  -- the sum of a row is a value of its transform
  row_sum : (x : List ℕ) (r c : ℕ) → r < δ → Mod q (strided_sum_of x (r * ρ) 1 ρ powers (c * δ)) (transform_at ρ (w ^ δ) (λ j. at x (r * ρ + j)) c)
  unfolding strided_sum_of maths.transform_at
  row_sum x r c h =
      mod_sum ρ _ _
      (λ j l.
      let exponent : δ * (c * j) ≡ c * δ * j = omega arith in
      mod_mul (mod_eq (ap (λ (t : ℕ). at x (r * ρ + t)) (one-mul j))) (rw (pow_mul, exponent) (power_at h (c * δ * j))))

  -- the power of the twist
  twist_at : (r c : ℕ) → r < δ → c < ρ → Mod q (at powers (r * c)) (w ^ (c * r))
  twist_at r c h k =
      let below : r * c < length powers = rw root.size (product_below_sizes h k) in
      rw (mul_comm c r) (rw (mod-eq_of_lt below) at (power_at h (r * c)))

  -- a twisted number in row r, column c
  twisted_row : (x : List ℕ) (r c : ℕ) → length x ≡ δ * ρ → r < δ → c < ρ
      → Mod q (at (twisted q ρ powers x) (r * ρ + c)) (w ^ (c * r) * at x (r * ρ + c))
  twisted_row x r c long h k =
      rw (twisted_at q ρ powers x (r * ρ + c) (rw long (digits_lt h k)), digits_div r k, digits_mod r k)
      (mod_trans (mod_remainder q _)
      (rw (mul_comm (at x (r * ρ + c)) (at powers (r * c))) (mod_mul (twist_at r c h k) (mod_refl (at x (r * ρ + c))))))

  -- columns, with the twist
  column_row : (m : ℕ) (x : List ℕ) (r c : ℕ) → r < δ → c < ρ
      → Mod q (at (twisted q ρ powers (columns q ρ m (δ * ρ) powers x)) (r * ρ + c)) (w ^ (c * r) * transform_at m (w ^ ρ) (λ j. at x (ρ * j + c)) r)
  column_row m x r c h k =
      let value : Mod q (at (columns q ρ m (δ * ρ) powers x) (r * ρ + c)) (transform_at m (w ^ ρ) (λ j. at x (ρ * j + c)) r) =
      rw (columns_at q ρ m (δ * ρ) powers x (r * ρ + c) (digits_lt h k), digits_div r k, digits_mod r k)
      (mod_trans (mod_remainder q _) (column_sum_lem x m r c h)) in
      mod_trans (twisted_row (columns q ρ m (δ * ρ) powers x) r c (columns_length q ρ m (δ * ρ) powers x) h k)
      (mod_mul (mod_refl (w ^ (c * r))) value)

  -- columns, twist and rows make what 003 stores of m rows
  pub rows_sent : (m : ℕ) (x : List ℕ) → m ≤ δ → length x ≤ m * ρ
      → rows q ρ δ powers (twisted q ρ powers (columns q ρ m (δ * ρ) powers x)) ≡ send q ρ δ w x
  rows_sent m x fits short =
      let between = twisted q ρ powers (columns q ρ m (δ * ρ) powers x) in
      let long : length between ≡ δ * ρ = columns_twisted_length q ρ m (δ * ρ) powers x in
      equal_by_row δ ρ _ _ (rows_length q ρ δ powers between ∙ long) (send_length q ρ δ w x) root.some_columns
      (λ r c h k.
      rw (rows_at q ρ δ powers between (r * ρ + c) (rw long (digits_lt h k)), digits_div r k, digits_mod r k)
      ((mod_trans (row_sum between r c h) (transform_mod ρ (w ^ δ) _ _ c (λ j l. column_row m x r j h l))).same
      ∙ sym (send_columns_rows q ρ δ w m x r c (rw root.size at root.whole) fits short h k)))

  -- rows, with the twist
  row_column : (x : List ℕ) (n c : ℕ) → length x ≡ δ * ρ → n < δ → c < ρ
      → Mod q (at (twisted q ρ powers (rows q ρ δ powers x)) (n * ρ + c)) (w ^ (n * c) * transform_at ρ (w ^ δ) (λ j. at x (n * ρ + j)) c)
  row_column x n c long h k =
      let value : Mod q (at (rows q ρ δ powers x) (n * ρ + c)) (transform_at ρ (w ^ δ) (λ j. at x (n * ρ + j)) c) =
      rw (rows_at q ρ δ powers x (n * ρ + c) (rw long (digits_lt h k)), digits_div n k, digits_mod n k)
      (mod_trans (mod_remainder q _) (row_sum x n c h)) in
      rw (mul_comm n c)
      (mod_trans (twisted_row (rows q ρ δ powers x) n c (rows_length q ρ δ powers x ∙ long) h k) (mod_mul (mod_refl (w ^ (c * n))) value))

  -- rows, twist and the first m values of each column, times e, are the first m rows of what was stored
  pub columns_recovered : (m e : ℕ) (x : List ℕ) → m ≤ δ → length x ≡ δ * ρ
      → scaled q e (columns q ρ δ (m * ρ) powers (twisted q ρ powers (rows q ρ δ powers x))) ≡ recover q ρ δ w e (m * ρ) x
  columns_recovered m e x fits full =
      let between = twisted q ρ powers (rows q ρ δ powers x) in
      let long : length (columns q ρ δ (m * ρ) powers between) ≡ m * ρ = columns_length q ρ δ (m * ρ) powers between in
      equal_by_row m ρ _ _ (scaled_length q e _ ∙ long) (recover_length q ρ δ w e (m * ρ) x) root.some_columns
      (λ r c h k.
      let within : r < δ = omega arith in
      let value : Mod q (at (columns q ρ δ (m * ρ) powers between) (r * ρ + c)) (transform_at δ (w ^ ρ) (λ j. at between (ρ * j + c)) r) =
      rw (columns_at q ρ δ (m * ρ) powers between (r * ρ + c) (digits_lt h k), digits_div r k, digits_mod r k)
      (mod_trans (mod_remainder q _) (column_sum_lem between δ r c within)) in
      rw (scaled_at q e (columns q ρ δ (m * ρ) powers between) (r * ρ + c) (rw long (digits_lt h k)))
      ((mod_mul (mod_refl e)
      (mod_trans value (transform_mod δ (w ^ ρ) _ _ r (λ n l. rw (mul_comm ρ n) (row_column x n c full l k))))).same
      ∙ sym (recover_rows_columns q ρ δ w e (m * ρ) x r c (rw root.size at root.whole) within k (digits_lt h k))))
