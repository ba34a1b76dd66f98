-- One place of a product as a loop adds it up: only the places where both factors have a number are visited.
-- Assumes nothing.
use mathlib.Core.Path.{◌≡◌, sym, ◌∙◌}
use mathlib.Core.List.{List}
use Prim.Native.Nat.{ℕ, suc, ◌+◌, ◌-◌, ◌*◌, ◌^◌, ◌≤◌, ◌<◌, min}
use native.Mathlib.Nat.{mul-zero, zero-mul}
use native.Mathlib.Numerals.{add-one}
use native.Mathlib.Omega.{arith}
use lib.ListN.{length}
use Rattle.maths.specs.Sum.{sum}
use Rattle.maths.specs.Vector.{at}
use Rattle.maths.specs.Product.{product}
use Rattle.maths.proofs.Sum.{sum_zero, sum_last, sum_pad}
use Rattle.maths.proofs.Vector.{at_past}
use Rattle.residues.proofs.Laws.{product_below}

-- the terms of place p of the product of a and b
abbrev pub terms : List ℕ → List ℕ → ℕ → ℕ → ℕ
terms a b p j = at a j * at b (p - j)

-- s is the sum of the first j terms, and j is not before the first place that meets a number of b
pub record Part (a b : List ℕ) (p j s : ℕ) : Type 0 where
  pub within : j ≤ p + 1
  pub meets : p + 1 ≤ j + length b
  pub exact : s ≡ sum j (terms a b p)
  pub bounded : s ≤ j * 2 ^ 48

-- the product of two numbers below 2^24
pub small_product : {x y : ℕ} → x < 2 ^ 24 → y < 2 ^ 24 → x * y < 2 ^ 48
small_product h k = product_below {b = 2 ^ 24} h k

module _ {a b : List ℕ} {p : ℕ} where
  -- before the first turn: no number of b is met yet
  pub part_none : (j : ℕ) → j ≡ p + 1 - length b → Part a b p j 0
  part_none j e =
      record {
        within = omega arith;
        meets = omega arith;
        exact = sym (sum_zero j _ (λ l h. rw (at_past b (p - l) (omega arith), mul-zero)));
        bounded = omega arith;
      }

  -- a turn adds the next term
  pub part_more : {j s x : ℕ} → Part a b p j s → j < p + 1 → x ≡ terms a b p j → x < 2 ^ 48 → Part a b p (j + 1) (s + x)
  part_more {j} {s} {x} f h e small =
      record {
        within = omega arith;
        meets = omega (arith, f.meets);
        exact = rw (add-one, sum_last, f.exact, e);
        bounded = omega (arith, f.bounded);
      }

  -- after the last turn: the other terms have no number of a
  pub part_all : {j s end : ℕ} → Part a b p j s → end ≡ min (length a) (p + 1) → end ≤ j → s ≡ product a b p
  unfolding product
  part_all {j} f e h =
      f.exact ∙ sym (sum_pad j (suc p) _ (omega (arith, f.within)) (λ l low high. rw (at_past a l (omega arith), zero-mul)))
