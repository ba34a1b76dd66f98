-- A transform of size D1 · D2 as transforms of size D1 (columns), a multiplication by powers of the root (twist) and transforms of size D2 (rows): 003
-- section 3.2.2.
-- Assumes nothing.
use mathlib.Core.Path.{◌≡◌, sym, ap, ◌∙◌}
use Prim.Native.Nat.{ℕ, ◌+◌, ◌*◌, ◌/◌, ◌%◌, ◌^◌, ◌≤◌}
use native.Mathlib.Nat.{mul_comm, mul-le-mul_left, div-add-mod'}
use native.Mathlib.Omega.{arith}
use lib.Pow.{pow-add}
use Rattle.maths.specs.Congruence.{Mod}
use Rattle.maths.specs.Transform.{transform_at}
use Rattle.maths.proofs.Sum.{sum_blocks, sum_swap, sum_mul_left, sum_mul_right}
use Rattle.maths.proofs.Congruence.{mod_eq, mod_sym, mod_trans, mod_one_mul, mod_pow, mod_sum}
use Rattle.maths.proofs.Power.{pow_mul, one_pow}
use Rattle.maths.proofs.Convolution.{transform_pad}

-- a power of a number whose power D is congruent to 1
pub power_whole : {q : ℕ} (w D n : ℕ) → Mod q (w ^ D) 1 → Mod q (w ^ (D * n)) 1
power_whole w D n h = rw (← pow_mul w D n) (mod_trans (mod_pow n h) (mod_eq (one_pow n)))

-- a power whose exponent is counted modulo D
pub power_round : {q : ℕ} (w D t : ℕ) → Mod q (w ^ D) 1 → Mod q (w ^ (t % D)) (w ^ t)
power_round w D t h =
    let parts : D * (t / D) + t % D ≡ t = omega (arith, div-add-mod' t D) in
    mod_trans (mod_sym (mod_one_mul (w ^ (t % D)) (power_whole w D (t / D) h)))
    (mod_eq (sym (pow-add w (D * (t / D)) (t % D)) ∙ ap (λ (y : ℕ). w ^ y) parts))

-- the power of w at places D2 · n1 + n2 and k1 + D1 · k2 as four powers
split_power : (w D1 D2 k1 k2 n1 n2 : ℕ)
    → w ^ ((k1 + D1 * k2) * (D2 * n1 + n2)) ≡ w ^ (D1 * D2 * (k2 * n1)) * (w ^ (n2 * k1) * ((w ^ D2) ^ (k1 * n1) * (w ^ D1) ^ (k2 * n2)))
split_power w D1 D2 k1 k2 n1 n2 = simp (pow_mul, ← pow-add) (ap (λ (t : ℕ). w ^ t) (omega arith))

module _ {q : ℕ} (D1 D2 w : ℕ) (x : ℕ → ℕ) (k1 k2 : ℕ) (whole : Mod q (w ^ (D1 * D2)) 1) where
  -- one term of the sums below
  split_term : (n1 n2 : ℕ)
      → Mod q (x (D2 * n1 + n2) * w ^ ((k1 + D1 * k2) * (D2 * n1 + n2))) (w ^ (n2 * k1) * (x (D2 * n1 + n2) * (w ^ D2) ^ (k1 * n1)) * (w ^ D1) ^ (k2 * n2))
  split_term n1 n2 = rw split_power (mod_trans (mod_eq (omega arith)) (mod_one_mul _ (power_whole w (D1 * D2) (k2 * n1) whole)))

  -- columns, twist, rows: value k1 + D1 · k2 of the transform
  pub columns_rows : Mod q (transform_at (D1 * D2) w x (k1 + D1 * k2))
      (transform_at D2 (w ^ D1) (λ n2. w ^ (n2 * k1) * transform_at D1 (w ^ D2) (λ n1. x (D2 * n1 + n2)) k1) k2)
  unfolding transform_at
  columns_rows =
      mod_trans (mod_eq (sum_blocks D1 D2 _ ∙ sum_swap D1 D2 _))
      (simp (← sum_mul_left, ← sum_mul_right) (mod_sum D2 _ _ (λ n2 h. mod_sum D1 _ _ (λ n1 l. split_term n1 n2))))

-- the same with D1 · D2 places read in columns of D1: rows first, then the twist and the columns, as the inverse transform does
pub rows_columns : {q : ℕ} (D1 D2 w : ℕ) (y : ℕ → ℕ) (k1 k2 : ℕ) → Mod q (w ^ (D1 * D2)) 1
    → Mod q (transform_at (D1 * D2) w y (k2 + D2 * k1)) (transform_at D1 (w ^ D2) (λ n1. w ^ (n1 * k2) * transform_at D2 (w ^ D1) (λ n2. y (D1 * n2 + n1)) k2)
    k1)
rows_columns D1 D2 w y k1 k2 whole = rw (mul_comm D1 D2) (columns_rows D2 D1 w y k2 k1 (rw mul_comm whole))

-- zeros from place m · D2 on: each column has m places
pub column_pad : (m D1 D2 w : ℕ) (x : ℕ → ℕ) (k1 n2 : ℕ) → m ≤ D1 → ((j : ℕ) → m * D2 ≤ j → x j ≡ 0)
    → transform_at D1 (w ^ D2) (λ n1. x (D2 * n1 + n2)) k1 ≡ transform_at m (w ^ D2) (λ n1. x (D2 * n1 + n2)) k1
column_pad m D1 D2 w x k1 n2 fits end = transform_pad m D1 (w ^ D2) _ k1 fits (λ n1 low high. end (D2 * n1 + n2) (omega (arith, mul-le-mul_left D2 low)))

-- columns, twist, rows where place m · D2 and those after it are zero
pub columns_rows_pad : {q : ℕ} (m D1 D2 w : ℕ) (x : ℕ → ℕ) (k1 k2 : ℕ) → Mod q (w ^ (D1 * D2)) 1 → m ≤ D1 → ((j : ℕ) → m * D2 ≤ j → x j ≡ 0)
    → Mod q (transform_at (D1 * D2) w x (k1 + D1 * k2)) (transform_at D2 (w ^ D1) (λ n2. w ^ (n2 * k1) * transform_at m (w ^ D2) (λ n1. x (D2 * n1 + n2)) k1)
    k2)
columns_rows_pad m D1 D2 w x k1 k2 whole fits end = simp (column_pad m D1 D2 w x k1) at (columns_rows D1 D2 w x k1 k2 whole)
