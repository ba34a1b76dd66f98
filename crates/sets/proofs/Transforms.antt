-- The three transform sizes of a set and their roots, by number.
-- Assumes nothing.
use mathlib.Core.Path.{◌≡◌, refl}
use mathlib.Core.Bool.{Bool, true, false, cond}
use Prim.Native.Nat.{ℕ, ◌≤◌}
use native.Mathlib.Omega.{arith}
use lib.Dec.{eqb}
use borrow.Author.Tests.{eq-eqb, ne_eqb}
use Rattle.maths.specs.Root.{power_table}
use Rattle.sets.specs.declared.Parameters.{Parameters}
use Rattle.sets.specs.Derived.{transform_size_of, transform_root, root_powers}
use Rattle.sets.specs.Rules.{Rules}

module _ (p : Parameters) (i : ℕ) where
  pub size_first : i ≡ 1 → transform_size_of p i ≡ p.d1
  unfolding transform_size_of
  size_first e = rw (eq-eqb i 1 e)

  pub size_second : i ≡ 2 → transform_size_of p i ≡ p.d2
  unfolding transform_size_of
  size_second e = rw e

  pub size_third : (i ≡ 1 → ⊥) → (i ≡ 2 → ⊥) → transform_size_of p i ≡ p.d3
  unfolding transform_size_of
  size_third f s = rw (ne_eqb i 1 f, ne_eqb i 2 s)

  pub powers_first : i ≡ 1 → root_powers p i ≡ power_table p.q p.w1 p.d1
  unfolding transform_size_of transform_root root_powers
  powers_first e = rw (eq-eqb i 1 e)

  pub powers_second : i ≡ 2 → root_powers p i ≡ power_table p.q p.w2 p.d2
  unfolding transform_size_of transform_root root_powers
  powers_second e = rw e

  pub powers_third : (i ≡ 1 → ⊥) → (i ≡ 2 → ⊥) → root_powers p i ≡ power_table p.q p.w3 p.d3
  unfolding transform_size_of transform_root root_powers
  powers_third f s = rw (ne_eqb i 1 f, ne_eqb i 2 s)

-- the size of each transform
pub first_size : (p : Parameters) → transform_size_of p 1 ≡ p.d1
first_size p = size_first p 1 refl

pub second_size : (p : Parameters) → transform_size_of p 2 ≡ p.d2
second_size p = size_second p 2 refl

pub third_size : (p : Parameters) → transform_size_of p 3 ≡ p.d3
third_size p = size_third p 3 (λ e. omega arith) (λ e. omega arith)

-- what holds of the three sizes holds of each
pub by_size : (p : Parameters) (i : ℕ) (P : ℕ → Type 0) → P p.d1 → P p.d2 → P p.d3 → P (transform_size_of p i)
unfolding transform_size_of
by_size p i P first second third = picked (eqb i 1) (eqb i 2)
  where
    picked : (one two : Bool) → P (cond one p.d1 (cond two p.d2 p.d3))
    picked true two = first
    picked false true = second
    picked false false = third

-- no transform has more than 3,328 places
pub size_most : (p : Parameters) → Rules p → (i : ℕ) → transform_size_of p i ≤ 3328
size_most p kept i =
    by_size p i (λ D. D ≤ 3328) (omega (arith, kept.rising1, kept.rising2, kept.most_d3)) (omega (arith, kept.rising2, kept.most_d3)) kept.most_d3
