-- Two steps of a transform in one: four values from four numbers (Butterfly). A transform of 16 numbers by two such steps, and one of 256 numbers as 16
-- columns, a twist and 16 rows.
-- Assumes nothing.
use mathlib.Core.Path.{◌≡◌, sym, ap, ◌∙◌}
use Prim.Native.Nat.{ℕ, ◌+◌, ◌-◌, ◌*◌, ◌/◌, ◌%◌, ◌^◌, ◌≤◌, ◌<◌}
use native.Mathlib.Nat.{add-sub_of_le, add_comm, add-zero, zero-add, one-mul, mul-zero, mul_comm, pow-zero, zero-mod}
use native.Mathlib.Decide.{dec_le}
use native.Mathlib.Omega.{arith}
use Rattle.maths.specs.Congruence.{Mod}
use Rattle.maths.specs.Transform.{transform_at}
use Rattle.maths.specs.Butterfly.{difference, Butterfly}
use Rattle.maths.proofs.Congruence.{mod_refl, mod_eq, mod_sym, mod_trans, mod_add, mod_mul, mod_add_multiple, mod_add_cancel}
use Rattle.maths.proofs.Power.{pow_mul}
use Rattle.maths.proofs.Convolution.{transform_mod}
use Rattle.maths.proofs.Split.{columns_rows}
use Rattle.maths.proofs.Radix.{whole_power, radix_even, radix_odd, Passed, first_pass, last_pass}

-- the difference is what the second number lacks to the first
pub difference_add : (q a b : ℕ) → 0 < q → Mod q (difference q a b + b) a
unfolding difference
difference_add q a b some =
    let whole : q - 1 + 1 ≡ q = omega arith in
    let e : a + (q - 1) * b + b ≡ a + b * q = omega (arith, ap (λ (x : ℕ). b * x) whole) in
    mod_trans (mod_eq e) (mod_add_multiple q a b)

-- differences of congruent numbers
pub difference_mod : {q a b c d : ℕ} → Mod q a b → Mod q c d → Mod q (difference q a c) (difference q b d)
unfolding difference
difference_mod {q} h k = mod_add h (mod_mul (mod_refl (q - 1)) k)

-- the difference with a multiple of q in between, which keeps it from falling below 0
pub difference_lift : (q a b lift : ℕ) → 0 < q → lift % q ≡ 0 → b ≤ lift → Mod q (a + (lift - b)) (difference q a b)
difference_lift q a b lift some multiple h =
    let e : a + (lift - b) + b ≡ a + lift = omega arith in
    let none : Mod q lift 0 = record { same = multiple ∙ sym (zero-mod q) } in
    mod_add_cancel b
    (mod_trans (mod_eq e) (mod_trans (mod_add (mod_refl a) none) (mod_trans (mod_eq (add-zero a)) (mod_sym (difference_add q a b some)))))

-- the multipliers of a butterfly count modulo q
pub butterfly_mod : {q t u v a b c d z₀ z₁ z₂ z₃ t' u' v' : ℕ} → Butterfly q t u v a b c d z₀ z₁ z₂ z₃ → Mod q t t' → Mod q u u' → Mod q v v'
    → Butterfly q t' u' v' a b c d z₀ z₁ z₂ z₃
butterfly_mod h t-is u-is v-is =
    record {
      zeroth = h.zeroth;
      first = mod_trans h.first (mod_add (mod_mul (mod_refl _) t-is) (mod_mul (mod_refl _) u-is));
      second = mod_trans h.second (mod_mul (mod_refl _) v-is);
      third = mod_trans h.third (mod_mul (difference_mod (mod_mul (mod_refl _) t-is) (mod_mul (mod_refl _) u-is)) v-is);
    }

module _ {q : ℕ} (n w : ℕ) (x : ℕ → ℕ) (some : 0 < q) (minus : Mod q (w ^ (2 * n) + 1) 0) where
  -- the sums of the first step
  sums : ℕ → ℕ
  sums j = x j + x (2 * n + j)

  -- the differences of the first step, times powers of the root
  turned : ℕ → ℕ
  turned j = difference q (x j) (x (2 * n + j)) * w ^ j

  -- the root of the second step, to half its size, is −1
  minus_two : Mod q ((w ^ 2) ^ n + 1) 0
  minus_two = rw pow_mul minus

  -- value 4 · i
  four_zeroth : (i : ℕ) → Mod q (transform_at (2 * (2 * n)) w x (2 * (2 * i))) (transform_at n ((w ^ 2) ^ 2) (λ j. sums j + sums (n + j)) i)
  unfolding sums
  four_zeroth i =
      mod_trans (radix_even (2 * n) w x (2 * i) (whole_power (2 * n) w minus)) (radix_even n (w ^ 2) sums i (whole_power n (w ^ 2) minus_two))

  -- value 4 · i + 2
  four_second : (i : ℕ) → Mod q (transform_at (2 * (2 * n)) w x (2 * (2 * i + 1)))
      (transform_at n ((w ^ 2) ^ 2) (λ j. difference q (sums j) (sums (n + j)) * (w ^ 2) ^ j) i)
  unfolding sums
  four_second i =
      mod_trans (radix_even (2 * n) w x (2 * i + 1) (whole_power (2 * n) w minus))
      (radix_odd n (w ^ 2) sums (λ j. difference q (sums j) (sums (n + j))) i minus_two (λ j h. difference_add q _ _ some))

  -- the first step, to an odd value
  four_odd : (i : ℕ) → Mod q (transform_at (2 * (2 * n)) w x (2 * i + 1)) (transform_at (2 * n) (w ^ 2) turned i)
  unfolding turned
  four_odd i = radix_odd (2 * n) w x (λ j. difference q (x j) (x (2 * n + j))) i minus (λ j h. difference_add q _ _ some)

  -- value 4 · i + 1
  four_first : (i : ℕ) → Mod q (transform_at (2 * (2 * n)) w x (2 * (2 * i) + 1)) (transform_at n ((w ^ 2) ^ 2) (λ j. turned j + turned (n + j)) i)
  four_first i = mod_trans (four_odd (2 * i)) (radix_even n (w ^ 2) turned i (whole_power n (w ^ 2) minus_two))

  -- value 4 · i + 3
  four_third : (i : ℕ) → Mod q (transform_at (2 * (2 * n)) w x (2 * (2 * i + 1) + 1))
      (transform_at n ((w ^ 2) ^ 2) (λ j. difference q (turned j) (turned (n + j)) * (w ^ 2) ^ j) i)
  four_third i =
      mod_trans (four_odd (2 * i + 1))
      (radix_odd n (w ^ 2) turned (λ j. difference q (turned j) (turned (n + j))) i minus_two (λ j h. difference_add q _ _ some))

-- the butterflies of two passes: p counts the blocks, c the places in a block
pub record Fourfold (q s n w : ℕ) (y z : ℕ → ℕ) : Type 0 where
  pub each : (p c : ℕ) → p < n → c < s
      → Butterfly q (w ^ (s * p)) (w ^ (s * (p + n))) (w ^ (2 * s * p))
      (y (s * p + c)) (y (s * n + (s * p + c))) (y (2 * (s * n) + (s * p + c))) (y (3 * (s * n) + (s * p + c)))
      (z (4 * s * p + c)) (z (4 * s * p + (s + c))) (z (4 * s * p + (2 * s + c))) (z (4 * s * p + (3 * s + c)))

module _ {q : ℕ} (s n w : ℕ) {F y : ℕ → ℕ} (some : 0 < q) (before : Passed q s (4 * n) w F y) (minus : Mod q (w ^ (s * (2 * n)) + 1) 0) (z : ℕ → ℕ)
    (turn : Fourfold q s n w y z) where
  -- column c of y
  column : ℕ → ℕ → ℕ
  column c j = y (s * j + c)

  -- the root of the passes, to half the size, is −1
  root_minus : Mod q ((w ^ s) ^ (2 * n) + 1) 0
  root_minus = rw pow_mul minus

  -- a value before the two passes
  before_value : (k c : ℕ) → k < 4 * n → c < s → Mod q (F (s * k + c)) (transform_at (2 * (2 * n)) (w ^ s) (column c) k)
  unfolding column
  before_value k c h l =
      let size : 2 * (2 * n) ≡ 4 * n = omega arith in
      rw size (before.value k c h l)

  -- the root after the two passes
  root_four : ((w ^ s) ^ 2) ^ 2 ≡ w ^ (4 * s)
  root_four = simp pow_mul (ap (λ (t : ℕ). w ^ t) (omega arith))

  -- the numbers of a butterfly as places of a column
  column_butterfly : (p c : ℕ) → p < n → c < s
      → Butterfly q ((w ^ s) ^ p) ((w ^ s) ^ (n + p)) (((w ^ s) ^ 2) ^ p) (column c p) (column c (n + p)) (column c (2 * n + p)) (column c (2 * n + (n + p)))
      (z (4 * s * p + c)) (z (4 * s * p + (s + c))) (z (4 * s * p + (2 * s + c))) (z (4 * s * p + (3 * s + c)))
  unfolding column
  column_butterfly p c h l =
      let t-is : s * (p + n) ≡ s * (n + p) = omega arith in
      let v-is : 2 * s * p ≡ s * 2 * p = omega arith in
      let first : s * n + (s * p + c) ≡ s * (n + p) + c = omega arith in
      let second : 2 * (s * n) + (s * p + c) ≡ s * (2 * n + p) + c = omega arith in
      let third : 3 * (s * n) + (s * p + c) ≡ s * (2 * n + (n + p)) + c = omega arith in
      rw (pow_mul w s p, pow_mul w s (n + p), pow_mul w s 2, pow_mul w (s * 2) p, ← first, ← second, ← third, ← t-is, ← v-is) (turn.each p c h l)

  -- a value after the two passes, from the numbers f that they leave in its column
  after_value : (i c C k : ℕ) (f : ℕ → ℕ) → i < n → c < s → k < 4 * n → 4 * s * i + C ≡ s * k + c
      → Mod q (transform_at (2 * (2 * n)) (w ^ s) (column c) k) (transform_at n (((w ^ s) ^ 2) ^ 2) f i)
      → ((j : ℕ) → j < n → Mod q (z (4 * s * j + C)) (f j)) → Mod q (F (4 * s * i + C)) (transform_at n (w ^ (4 * s)) (λ j. z (4 * s * j + C)) i)
  after_value i c C k f h l b place step values =
      rw (place, ← root_four)
      (mod_trans (before_value k c b l) (mod_trans step (transform_mod n _ f _ i (λ j m. mod_sym (values j m)))))

  -- the four values of a column
  value_zeroth : (i c : ℕ) → i < n → c < s → Mod q (F (4 * s * i + c)) (transform_at n (w ^ (4 * s)) (λ j. z (4 * s * j + c)) i)
  unfolding sums
  value_zeroth i c h l =
      after_value i c c (2 * (2 * i)) _ h l (omega arith) (omega arith) (four_zeroth n (w ^ s) (column c) some root_minus i)
      (λ j m. (column_butterfly j c m l).zeroth)

  value_first : (i c : ℕ) → i < n → c < s → Mod q (F (4 * s * i + (s + c))) (transform_at n (w ^ (4 * s)) (λ j. z (4 * s * j + (s + c))) i)
  unfolding turned
  value_first i c h l =
      after_value i c (s + c) (2 * (2 * i) + 1) _ h l (omega arith) (omega arith) (four_first n (w ^ s) (column c) some root_minus i)
      (λ j m. (column_butterfly j c m l).first)

  value_second : (i c : ℕ) → i < n → c < s → Mod q (F (4 * s * i + (2 * s + c))) (transform_at n (w ^ (4 * s)) (λ j. z (4 * s * j + (2 * s + c))) i)
  unfolding sums
  value_second i c h l =
      after_value i c (2 * s + c) (2 * (2 * i + 1)) _ h l (omega arith) (omega arith) (four_second n (w ^ s) (column c) some root_minus i)
      (λ j m. (column_butterfly j c m l).second)

  value_third : (i c : ℕ) → i < n → c < s → Mod q (F (4 * s * i + (3 * s + c))) (transform_at n (w ^ (4 * s)) (λ j. z (4 * s * j + (3 * s + c))) i)
  unfolding turned
  value_third i c h l =
      after_value i c (3 * s + c) (2 * (2 * i + 1) + 1) _ h l (omega arith) (omega arith) (four_third n (w ^ s) (column c) some root_minus i)
      (λ j m. (column_butterfly j c m l).third)

  -- two passes in one
  pub next_four : Passed q (4 * s) n w F z
  next_four =
      record {
        value = λ i c h l.
            elim (dec_le s c) [
              | no zeroth ↦ value_zeroth i c h (omega arith)
              | yes a ↦ elim (dec_le (2 * s) c) [
                | no first ↦ rw (← add-sub_of_le a) (value_first i (c - s) h (omega arith))
                | yes b ↦ elim (dec_le (3 * s) c) [
                  | no second ↦ rw (← add-sub_of_le b) (value_second i (c - 2 * s) h (omega arith))
                  | yes d ↦ rw (← add-sub_of_le d) (value_third i (c - 3 * s) h (omega arith))
                ]
              ]
            ];
      }

-- a transform of 16 numbers: y to m with the powers of the root, and m to z, where one power is not 1
module _ {q : ℕ} (v : ℕ) (some : 0 < q) (minus : Mod q (v ^ 8 + 1) 0) (t u w : ℕ → ℕ) {e : ℕ} (y m z : ℕ → ℕ)
    (t-is : (p : ℕ) → p < 4 → Mod q (t p) (v ^ p)) (u-is : (p : ℕ) → p < 4 → Mod q (u p) (v ^ (4 + p))) (w-is : (p : ℕ) → p < 4 → Mod q (w p) (v ^ (2 * p)))
    (e-is : Mod q e (v ^ 4))
    (narrow : (p : ℕ) → p < 4 → Butterfly q (t p) (u p) (w p) (y p) (y (4 + p)) (y (8 + p)) (y (12 + p))
    (m (4 * p)) (m (4 * p + 1)) (m (4 * p + 2)) (m (4 * p + 3)))
    (wide : (c : ℕ) → c < 4 → Butterfly q 1 e 1 (m c) (m (4 + c)) (m (8 + c)) (m (12 + c)) (z c) (z (4 + c)) (z (8 + c)) (z (12 + c))) where
  -- the first two steps
  narrow_four : Fourfold q 1 4 v y m
  narrow_four =
      record {
        each = λ p c h l.
            let none : c ≡ 0 = omega arith in
            simp (none, one-mul, add-zero, add_comm p 4) (butterfly_mod (narrow p h) (t-is p h) (u-is p h) (w-is p h));
      }

  -- the last two steps
  wide_four : Fourfold q 4 1 v m z
  wide_four =
      record {
        each = λ p c h l.
            let none : p ≡ 0 = omega arith in
            simp (none, mul-zero, zero-add, pow-zero) (butterfly_mod (wide c l) (mod_refl 1) e-is (mod_refl 1));
      }

  -- all four
  pub sixteen_values : (i : ℕ) → i < 16 → Mod q (z i) (transform_at 16 v y i)
  sixteen_values i h =
      mod_sym (last_pass (next_four 4 1 v some (next_four 1 4 v some (first_pass q 16 v y) minus m narrow_four) minus z wide_four) i h)

-- a transform of 256 numbers: 16 columns of 16 from x to y, the twist to y', where rows and columns are exchanged, and 16 columns of 16 to z
module _ {q : ℕ} (v : ℕ) (x y y' z : ℕ → ℕ) (whole : Mod q (v ^ 256) 1)
    (columns : (i c : ℕ) → i < 16 → c < 16 → Mod q (y (16 * i + c)) (transform_at 16 (v ^ 16) (λ j. x (16 * j + c)) i))
    (twist : (a b : ℕ) → a < 16 → b < 16 → Mod q (y' (16 * a + b)) (y (16 * b + a) * v ^ (a * b)))
    (rows : (i c : ℕ) → i < 16 → c < 16 → Mod q (z (16 * i + c)) (transform_at 16 (v ^ 16) (λ j. y' (16 * j + c)) i)) where
  -- value c + 16 · i
  row_value : (i c : ℕ) → i < 16 → c < 16 → Mod q (z (16 * i + c)) (transform_at 256 v x (c + 16 * i))
  row_value i c h k =
      mod_trans (rows i c h k)
      (mod_trans (transform_mod 16 (v ^ 16) _ _ i
      (λ j l. mod_trans (twist j c l k) (mod_trans (mod_mul (columns c j k l) (mod_refl (v ^ (j * c)))) (mod_eq (mul_comm _ (v ^ (j * c)))))))
      (mod_sym (columns_rows 16 16 v x c i whole)))

  -- value c
  pub row_values : (c : ℕ) → c < 256 → Mod q (z c) (transform_at 256 v x c)
  row_values c h =
      let parts : c ≡ 16 * (c / 16) + c % 16 = omega arith in
      let place : c % 16 + 16 * (c / 16) ≡ c = omega arith in
      rw place at (rw (← parts) at (row_value (c / 16) (c % 16) (omega arith) (omega arith)))
