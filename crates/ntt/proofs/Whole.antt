-- Columns, twist and rows together are the transform in the order of 003, and rows, twist and columns its inverse (003 section 3.2.2).
-- Assumes nothing.
use mathlib.Core.Path.{◌≡◌, sym, ap, ◌∙◌}
use mathlib.Core.List.{List, ◌++◌}
use Prim.Native.Nat.{ℕ, ◌+◌, ◌-◌, ◌*◌, ◌%◌, ◌^◌, ◌≤◌, ◌<◌}
use native.Mathlib.Nat.{mod-lt, mul_comm, mul-one, zero-mul, pow-zero}
use native.Mathlib.Omega.{arith}
use lib.Arith.{digits_lt}
use lib.ListN.{length, take, drop, length-take, length-drop}
use lib.Seq.{take_all, take_at, length-take-le, get_or-take, get_or-drop}
use Rattle.maths.specs.Vector.{at, tabulate, AllBelow}
use Rattle.maths.specs.Congruence.{Mod}
use Rattle.maths.specs.Transform as maths
use Rattle.maths.specs.Transform.{transform_at, send, recover}
use Rattle.maths.proofs.Sum.{sum_cong}
use Rattle.maths.proofs.Vector.{tabulate_length, tabulate_at, tabulate_cong}
use Rattle.maths.proofs.Congruence.{mod_refl, mod_eq, mod_trans, mod_mul, mod_sum, mod_remainder}
use Rattle.maths.proofs.Power.{pow_mul}
use Rattle.maths.proofs.Split.{power_round}
use Rattle.maths.proofs.Convolution.{transform_mod}
use Rattle.maths.proofs.Transform.{transform_scale, send_length, send_row, send_columns_rows, recover_length, recover_at, recover_rows_columns}
use Rattle.calls.specs.Region.{region}
use Rattle.calls.proofs.Region.{region_entry}
use Rattle.montgomery.specs.Scaled.{unscale}
use Rattle.montgomery.proofs.Laws.{unscale_twice, unscale_twice_one}
use Rattle.ntt_tables.specs.Tables.{Ready, Tables}
use Rattle.ntt_columns.specs.Columns as columns
use Rattle.ntt_columns.specs.Columns.{column_sum, ColumnsReady, Columns}
use Rattle.ntt.specs.Rows.{ForwardRows, InverseRows, first_row_at}
use Rattle.ntt.proofs.Places.{by_rows, equal_by_rows}

-- the rest of a list, as a part that is lent
pub rest : (xs : List ℕ) (a : ℕ) → take (length xs - a) (drop a xs) ≡ drop a xs
rest xs a = take_all (length xs - a) (drop a xs) (rw length-drop (omega arith))

-- the front of a list, when a part that was lent came back with each of its numbers changed
pub front_changed : (n : ℕ) (z s after : List ℕ) (f : ℕ → ℕ) → n ≤ length z → s ≡ tabulate (length (take n z)) (λ i. f (at (take n z) i))
    → take n (s ++ after) ≡ tabulate n (λ i. f (at z i))
front_changed n z s after f fits e =
    let size : length (take n z) ≡ n = length-take-le n z fits in
    let made : s ≡ tabulate n (λ i. f (at z i)) =
    e ∙ rw size (tabulate_cong n _ _ (λ i h. rw (get_or-take n z i 0 h))) in
    take_at s after n (ap length made ∙ tabulate_length n _) ∙ made

-- the columns may begin
pub columns_ready : {q m out δ limit : ℕ} {tables x : List ℕ} → Ready q δ tables → length x ≡ δ * 256 → m ≤ δ → out ≤ δ
    → AllBelow limit (m * 256) x → limit ≤ 2 ^ 25 → ColumnsReady q m out δ (drop (δ * 256 + 264) tables) x
columns_ready {q} {δ = δ} {tables = tables} ready size read written below small =
    record {
      some_rows = ready.some_rows;
      few_rows = ready.few_rows;
      read = read;
      written = written;
      size = size;
      factors_size = rw length-drop (omega (arith, ready.size));
      factors_below = record { each = λ i h. rw (get_or-drop (δ * 256 + 264) tables i 0) (ready.below.each (δ * 256 + 264 + i) (omega arith)) };
      numbers = record { each = λ i h. omega (arith, below.each i h) };
    }

-- the rows of an inverse transform leave numbers below 2 · q
pub inverse_below : {q δ : ℕ} {tables old new : List ℕ} → InverseRows q δ tables old new → AllBelow (2 * q) (δ * 256) new
inverse_below {q} {δ} {new = new} rows =
    record {
      each = by_rows 256 δ (λ i. at new i < 2 * q) (λ r c h k. rw (region_entry new (r * 256) 256 c 0 k) at ((rows.rows r h).below.each c k));
    }

module _ {q δ w : ℕ} {tables : List ℕ} (ready : Ready q δ tables) (made : Tables q δ w tables) where
  -- the factor of a column's term, whose place is counted modulo δ
  term_factor : (t : ℕ) → Mod q (unscale q (at (drop (δ * 256 + 264) tables) (t % δ))) ((w ^ 256) ^ t)
  term_factor t =
      rw (get_or-drop (δ * 256 + 264) tables (t % δ) 0)
      (mod_trans (made.columns (t % δ) (mod-lt t ready.some_rows))
      (power_round (w ^ 256) δ t (rw (pow_mul, mul_comm 256 δ) made.whole)))

  -- the sum of a column is a value of its transform
  column_value : (m : ℕ) (x : ℕ → ℕ) (r : ℕ) → Mod q (column_sum q (drop (δ * 256 + 264) tables) δ m x r) (transform_at m (w ^ 256) x r)
  unfolding columns.column_sum maths.transform_at
  column_value m x r = mod_sum m _ _ (λ j h. mod_mul (mod_refl (x j)) (term_factor (r * j)))

  -- the power of the twist at row r, column c
  twist_power : (r c : ℕ) → r < δ → c < 256 → Mod q (at tables (r * 256 + c)) (w ^ (c * r))
  twist_power r c h k = rw (made.twist r c h k, mul_comm c r) (mod_remainder q _)

  module _ {by : ℕ} (m : ℕ) (fits : m ≤ δ) (scale : by ≡ 2 ^ 64 % q) {x y z : List ℕ} (size : length x ≡ δ * 256) (y_size : length y ≡ δ * 256)
      (columns : Columns q m δ δ (drop (δ * 256 + 264) tables) x y) (rows : ForwardRows q by δ tables y z) where
    -- a number of the columns, from the first m rows
    forward_column : (r n : ℕ) → r < δ → n < 256 → Mod q (at y (r * 256 + n)) (transform_at m (w ^ 256) (λ j. at (take (m * 256) x) (256 * j + n)) r)
    forward_column r n h k =
        let place : (j : ℕ) → j < m → at x (j * 256 + n) ≡ at (take (m * 256) x) (256 * j + n) =
        λ j l. rw (mul_comm 256 j, get_or-take (m * 256) x (j * 256 + n) 0 (digits_lt l k)) in
        mod_trans (columns.values r n h k) (mod_trans (column_value m _ r) (transform_mod m (w ^ 256) _ _ r (λ j l. mod_eq (place j l))))

    -- after the twist, with the factor at the end
    forward_twist : (r n : ℕ) → r < δ → n < 256
        → Mod q (unscale q by * (at (region y (r * 256) 256) n * unscale q (at (region tables (r * 256) 256) n)))
        (w ^ (n * r) * transform_at m (w ^ 256) (λ j. at (take (m * 256) x) (256 * j + n)) r)
    forward_twist r n h k =
        let power : Mod q (unscale q (at tables (r * 256 + n)) * unscale q by) (w ^ (n * r)) =
        rw scale (mod_trans (unscale_twice_one ready.modulus (at tables (r * 256 + n))) (twist_power r n h k)) in
        rw (region_entry y (r * 256) 256 n 0 k, region_entry tables (r * 256) 256 n 0 k)
        (mod_trans (mod_eq (regroup (unscale q by) (at y (r * 256 + n)) (unscale q (at tables (r * 256 + n))))) (mod_mul power (forward_column r n h k)))
      where
        regroup : (a b c : ℕ) → a * (b * c) ≡ c * a * b
        regroup a b c = omega arith

    -- the columns, the twist and the rows send the first m rows
    pub sent : z ≡ send q 256 δ w (take (m * 256) x)
    sent =
        equal_by_rows 256 δ z _ (rows.size ∙ y_size) (send_length q 256 δ w _)
        (λ r c h k.
        let short : length (take (m * 256) x) ≤ m * 256 = rw length-take (omega arith) in
        sym (region_entry z (r * 256) 256 c 0 k) ∙ (rows.rows r h).values (w ^ δ) made.row c k
        ∙ (mod_trans (mod_eq (mul_comm _ (unscale q by) ∙ sym (transform_scale 256 (w ^ δ) (unscale q by) _ c)))
        (transform_mod 256 (w ^ δ) _ _ c (λ n l. forward_twist r n h l))).same
        ∙ sym (send_columns_rows q 256 δ w m (take (m * 256) x) r c made.whole fits short h k))

  module _ {by : ℕ} (e : ℕ) (scale : Mod q by (e * 2 ^ 64)) {x y : List ℕ} (rows : InverseRows q δ tables x y) where
    -- a number of the rows, after the twist, with the factor at the end
    inverse_row_lem : (n c : ℕ) → n < δ → c < 256
        → Mod q (unscale q by * at y (n * 256 + c)) (e * (w ^ (n * c) * transform_at 256 (w ^ δ) (λ j. at x (n * 256 + j)) c))
    inverse_row_lem n c h k =
        let value : Mod q (at y (n * 256 + c)) (transform_at 256 (w ^ δ) (λ j. at x (n * 256 + j)) c * unscale q (at tables (n * 256 + c))) =
        rw (region_entry y (n * 256) 256 c 0 k, region_entry tables (n * 256) 256 c 0 k) at
        (mod_trans ((rows.rows n h).values (w ^ δ) made.row c k)
        (mod_mul (transform_mod 256 (w ^ δ) _ _ c (λ j l. mod_eq (region_entry x (n * 256) 256 j 0 l))) (mod_refl _))) in
        let power : Mod q (unscale q (at tables (n * 256 + c)) * unscale q by) (w ^ (n * c) * e) =
        mod_trans (unscale_twice ready.modulus (at tables (n * 256 + c)) by e scale)
        (mod_mul (rw (mul_comm n c) (twist_power n c h k)) (mod_refl e)) in
        mod_trans (mod_mul (mod_refl (unscale q by)) value)
        (mod_trans (mod_eq (regroup (unscale q by) _ (unscale q (at tables (n * 256 + c)))))
        (mod_trans (mod_mul power (mod_refl _)) (mod_eq (reorder (w ^ (n * c)) e _))))
      where
        regroup : (a b c : ℕ) → a * (b * c) ≡ c * a * b
        regroup a b c = omega arith

        reorder : (a b c : ℕ) → a * b * c ≡ b * (a * c)
        reorder a b c = omega arith

    -- value r of column c, with the factor at the end, is the number recovered at its place
    recovered_at : (l r c : ℕ) → r < δ → c < 256 → r * 256 + c < l
        → transform_at δ (w ^ 256) (λ n. at y (n * 256 + c)) r * unscale q by % q ≡ at (recover q 256 δ w e l x) (r * 256 + c)
    recovered_at l r c h k inside =
        (mod_trans (mod_eq (mul_comm _ (unscale q by) ∙ sym (transform_scale δ (w ^ 256) (unscale q by) _ r)))
        (mod_trans (transform_mod δ (w ^ 256) _ _ r (λ n b. inverse_row_lem n c b k)) (mod_eq (transform_scale δ (w ^ 256) e _ r)))).same
        ∙ sym (recover_rows_columns q 256 δ w e l x r c made.whole h k inside)

    -- the sums of the columns recover the first row
    pub first_recovered : (l c : ℕ) → c < 256 → c < l → first_row_at q by δ y c ≡ at (recover q 256 δ w e l x) c
    unfolding first_row_at maths.transform_at
    first_recovered l c k inside =
        let place : 0 * 256 + c ≡ c = omega arith in
        ap (λ (s : ℕ). s * unscale q by % q) (sum_cong δ _ _ (λ n h. rw (zero-mul, pow-zero) (sym (mul-one (at y (n * 256 + c))))))
        ∙ rw place at (recovered_at l 0 c ready.some_rows k (rw place inside))

    module _ (m : ℕ) (fits : m ≤ δ) {z front : List ℕ} (columns : Columns q δ m δ (drop (δ * 256 + 264) tables) y z)
        (settled : front ≡ tabulate (m * 256) (λ i. at z i * unscale q by % q)) (front-size : length front ≡ m * 256) where
      -- the rows, the twist and the columns recover the first m rows of what was sent
      pub recovered : front ≡ recover q 256 δ w e (m * 256) x
      recovered =
          equal_by_rows 256 m front _ front-size (recover_length q 256 δ w e (m * 256) x)
          (λ r c h k.
          let inside : r * 256 + c < m * 256 = digits_lt h k in
          ap (λ (l : List ℕ). at l (r * 256 + c)) settled ∙ tabulate_at (m * 256) _ (r * 256 + c) inside
          ∙ (mod_mul (mod_trans (columns.values r c h k) (column_value δ _ r)) (mod_refl (unscale q by))).same
          ∙ recovered_at (m * 256) r c (omega arith) k inside)

-- the numbers of a vector that is sent are below q
pub send_below : (q ρ δ w : ℕ) (xs : List ℕ) → 0 < q → AllBelow q (δ * ρ) (send q ρ δ w xs)
send_below q ρ δ w xs some = record { each = by_rows ρ δ (λ i. at (send q ρ δ w xs) i < q) (λ r c h k. rw (send_row q ρ δ w xs r c h k) (mod-lt _ some)) }

-- the numbers of a vector that is recovered are below q
pub recover_below : (q ρ δ w e m : ℕ) (xs : List ℕ) → 0 < q → m ≤ δ * ρ → AllBelow q m (recover q ρ δ w e m xs)
recover_below q ρ δ w e m xs some fits = record { each = λ i h. rw (recover_at q ρ δ w e m xs i h (omega arith)) (mod-lt _ some) }
