-- Laws of four products, and the invariant of the loop that adds them to 64 sums.
-- Assumes nothing.
use mathlib.Core.Path.{◌≡◌, refl, sym, ap, ◌∙◌}
use mathlib.Core.List.{List}
use mathlib.Core.Logic.{inl, inr}
use Prim.Native.Nat.{ℕ, ◌+◌, ◌*◌, ◌%◌, ◌^◌, ◌≤◌, ◌<◌}
use native.Mathlib.Nat.{mul-le-mul, le_of_lt, eq-or-lt_of_le, le_of_suc-le-suc}
use native.Mathlib.Numerals.{add-one}
use native.Mathlib.Omega.{arith}
use lib.ListN.{length, set, length-set}
use lib.Seq.{get_or-set_same, get_or-set_other}
use Rattle.maths.specs.Vector.{at, AllBelow}
use Rattle.maths.specs.Congruence.{Mod}
use Rattle.maths.proofs.Congruence.{mod_refl, mod_eq, mod_trans, mod_add}
use Rattle.montgomery.specs.Scaled.{unscale}
use Rattle.montgomery.proofs.Laws.{unscale_remainder, unscale_add, unscale_mul_left}
use Rattle.ntt_columns.specs.Blocks.{four_products_of, Factors, Added}

-- the sum of four numbers in two halves
pub in_halves : (w x y z : ℕ) → w + x + (y + z) ≡ w + x + y + z
in_halves w x y z = omega arith

-- the four products
pub four_is : {s t u v : ℕ} (block : List ℕ) (j a b c d : ℕ) → s ≡ at block j * a → t ≡ at block (j + 64) * b → u ≡ at block (j + 128) * c
    → v ≡ at block (j + 192) * d
    → s + t + (u + v) ≡ four_products_of block j a b c d
unfolding four_products_of
four_is block j a b c d e f g h = rw (e, f, g, h) (in_halves _ _ _ _)

-- a product of numbers up to limits
pub product_most : {x y l p : ℕ} → x < l → y < p → x * y ≤ l * p
product_most h k = mul-le-mul (le_of_lt h) (le_of_lt k)

-- four products up to a limit
sum_most : (w x y z l : ℕ) → w ≤ l → x ≤ l → y ≤ l → z ≤ l → w + x + y + z ≤ 4 * l
sum_most w x y z l h i j k = omega arith

-- the four products of numbers below 2^25 and factors below q
pub four_below : {q : ℕ} (block : List ℕ) (j a b c d : ℕ) → AllBelow (2 ^ 25) 256 block → Factors q a b c d → j < 64 → 0 < q
    → four_products_of block j a b c d < q * 2 ^ 32
unfolding four_products_of
four_below {q} block j a b c d numbers factors h some =
    let first = product_most (numbers.each j (omega arith)) factors.first in
    let second = product_most (numbers.each (j + 64) (omega arith)) factors.second in
    let third = product_most (numbers.each (j + 128) (omega arith)) factors.third in
    let fourth = product_most (numbers.each (j + 192) (omega arith)) factors.fourth in
    omega (arith, sum_most _ _ _ _ (2 ^ 25 * q) first second third fourth)

-- four sums unscaled
pub unscale_four : (q w x y z : ℕ) → Mod q (unscale q (w + x + y + z)) (unscale q w + unscale q x + unscale q y + unscale q z)
unscale_four q w x y z =
    mod_trans (unscale_add q (w + x + y) z)
    (mod_add (mod_trans (unscale_add q (w + x) y) (mod_add (unscale_add q w x) (mod_refl (unscale q y)))) (mod_refl (unscale q z)))

-- the four products unscaled
pub four_unscaled : (q : ℕ) (block : List ℕ) (j a b c d : ℕ)
    → Mod q (unscale q (four_products_of block j a b c d)) (four_products_of block j (unscale q a) (unscale q b) (unscale q c) (unscale q d))
unfolding four_products_of
four_unscaled q block j a b c d =
    mod_trans (unscale_four q (at block j * a) (at block (j + 64) * b) (at block (j + 128) * c) (at block (j + 192) * d))
    (mod_add (mod_add (mod_add (unscale_mul_left q (at block j) a) (unscale_mul_left q (at block (j + 64)) b)) (unscale_mul_left q (at block (j + 128)) c))
    (unscale_mul_left q (at block (j + 192)) d))

-- what the reduction of the four products adds
step_adds : {q s x : ℕ} (block : List ℕ) (j a b c d : ℕ) → x ≡ four_products_of block j a b c d → s % q ≡ unscale q x
    → Mod q s (four_products_of block j (unscale q a) (unscale q b) (unscale q c) (unscale q d))
step_adds {q} {s} {x} block j a b c d e value =
    mod_trans (record { same = value ∙ sym (unscale_remainder q x) }) (mod_trans (mod_eq (ap (unscale q) e)) (four_unscaled q block j a b c d))

-- the sums that have four products more after j turns
pub record Adding (q a b c d : ℕ) (block old : List ℕ) (j : ℕ) (new : List ℕ) : Type 0 where
  pub within : j ≤ 64
  pub kept : length new ≡ length old
  pub values : (i : ℕ) → i < j → Mod q (at new i) (at old i + four_products_of block i (unscale q a) (unscale q b) (unscale q c) (unscale q d))
  pub below : (i : ℕ) → i < j → at new i < at old i + 2 * q
  pub rest : (i : ℕ) → j ≤ i → at new i ≡ at old i

module _ {q a b c d : ℕ} {block old : List ℕ} where
  -- before the first sum
  pub adding_none : Adding q a b c d block old 0 old
  adding_none =
      record {
        within = omega arith;
        kept = refl;
        values = λ i h. absurd (omega arith);
        below = λ i h. absurd (omega arith);
        rest = λ i h. refl;
      }

  -- one more sum, of which s is what is added
  pub adding_more : {j s x : ℕ} {new : List ℕ} → length old ≡ 64 → Adding q a b c d block old j new → j < 64 → x ≡ four_products_of block j a b c d
      → s % q ≡ unscale q x → s < 2 * q
      → Adding q a b c d block old (j + 1) (set new j (at new j + s))
  adding_more {j} {s} {x} {new} size added h e value small =
      let v = at new j + s in
      let here : j < length new = omega (arith, added.kept) in
      let same : at (set new j v) j ≡ at old j + s = get_or-set_same new j v 0 here ∙ ap (λ (y : ℕ). y + s) (added.rest j (omega arith)) in
      let other : (i : ℕ) → (i ≡ j → ⊥) → at (set new j v) i ≡ at new i = λ i n. get_or-set_other new j i v 0 n in
      record {
        within = omega arith;
        kept = length-set new j v ∙ added.kept;
        values = λ i l.
            elim (eq-or-lt_of_le (le_of_suc-le-suc (rw add-one at l))) [
              | inl last ↦ rw (last, same) (mod_add (mod_refl (at old j)) (step_adds block j a b c d e value))
              | inr before ↦ rw (other i (λ t. omega arith)) (added.values i before)
            ];
        below = λ i l.
            elim (eq-or-lt_of_le (le_of_suc-le-suc (rw add-one at l))) [
              | inl last ↦ rw (last, same) (omega arith)
              | inr before ↦ rw (other i (λ t. omega arith)) (added.below i before)
            ];
        rest = λ i l. other i (λ t. omega arith) ∙ added.rest i (omega arith);
      }

  -- after the last sum
  pub adding_all : {j : ℕ} {new : List ℕ} → Adding q a b c d block old j new → 64 ≤ j → Added q a b c d block old new
  adding_all added h = record { values = λ i l. added.values i (omega arith); below = λ i l. added.below i (omega arith) }
