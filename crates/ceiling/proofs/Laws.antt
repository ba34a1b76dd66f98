-- Laws of the ceiling: the sum over positions as two products, what bounds the noise of numbers in range, vector by vector, and how large a ceiling is.
-- Assumes nothing.
use mathlib.Core.Path.{◌≡◌, ap, ap₂, ◌∙◌}
use mathlib.Core.List.{List}
use Prim.Native.Nat.{ℕ, ◌+◌, ◌-◌, ◌*◌, ◌^◌, ◌≤◌, ◌<◌}
use native.Mathlib.Nat.{mul-le-mul}
use native.Mathlib.Omega.{arith}
use borrow.Author.Tests.{lt-ltb, le-ltb}
use lib.IntN.{ℤ, pos, nat_abs}
use lib.ListN.{get_or}
use lib.Pow.{pow_mono}
use Rattle.maths.specs.Sum.{sum}
use Rattle.maths.specs.Integer.{sum_ℤ}
use Rattle.maths.proofs.Sum.{sum_cong, sum_mono, sum_const, sum_split, sum_mul_left, sum_blocks}
use Rattle.maths.proofs.Size.{sum_ℤ_most}
use Rattle.calls.specs.Region.{vector}
use Rattle.calls.proofs.Region.{vector_each}
use Rattle.sets.specs.declared.Parameters.{Parameters}
use Rattle.sets.specs.Derived.{multiplier_count_of, multiplier_bits_of, multiplier_bound_of, error_count_of}
use Rattle.sets.specs.Rules.{Rules}
use Rattle.sets.proofs.Counts.{bits_most}
use Rattle.ceiling.specs.Ceiling.{most_products_of, most_dropped_of, ceiling}

-- B/2 at number l of vector i of the multipliers
abbrev pub vector_bound : Parameters → ℕ → ℕ → ℕ
vector_bound p i l = multiplier_bound_of p ((p.k + 1) * i + l)

module _ (p : Parameters) where
  -- the first positions have b1 bits, the others b2
  first_size : (i : ℕ) → i < p.ndec1 → multiplier_bound_of p i ≡ 2 ^ p.b1
  unfolding multiplier_bound_of multiplier_bits_of
  first_size i h = rw (lt-ltb i p.ndec1 h)

  other_size : (i : ℕ) → p.ndec1 ≤ i → multiplier_bound_of p i ≡ 2 ^ p.b2
  unfolding multiplier_bound_of multiplier_bits_of
  other_size i h = rw (le-ltb i p.ndec1 h)

  -- so the sum over all positions is two products
  pub sizes_are : p.ndec1 ≤ multiplier_count_of p
      → sum (multiplier_count_of p) (multiplier_bound_of p) ≡ p.ndec1 * 2 ^ p.b1 + (multiplier_count_of p - p.ndec1) * 2 ^ p.b2
  sizes_are fits =
      let others : ℕ = multiplier_count_of p - p.ndec1 in
      let all : multiplier_count_of p ≡ p.ndec1 + others = omega arith in
      ap (λ (n : ℕ). sum n (multiplier_bound_of p)) all ∙ sum_split p.ndec1 others (multiplier_bound_of p)
      ∙ ap₂ ◌+◌ (sum_cong p.ndec1 _ _ first_size ∙ sum_const p.ndec1 (2 ^ p.b1))
      (sum_cong others _ _ (λ i h. other_size (p.ndec1 + i) (omega arith)) ∙ sum_const others (2 ^ p.b2))

  -- t parts, each at most η times the sum of B/2 over its own k + 1 positions
  pub parts_most : (part : ℕ → ℤ) → ((i : ℕ) → i < p.t → nat_abs (part i) ≤ p.eta * sum (p.k + 1) (vector_bound p i))
      → nat_abs (sum_ℤ p.t part) ≤ most_products_of p
  unfolding most_products_of multiplier_count_of
  parts_most part each =
      rw (sum_blocks p.t (p.k + 1) (multiplier_bound_of p), ← sum_mul_left p.t p.eta (λ i. sum (p.k + 1) (vector_bound p i)))
      (sum_ℤ_most p.t part (λ i. p.eta * sum (p.k + 1) (vector_bound p i)) each)

  -- numbers in range: each multiplier by its position, and the errors
  pub record InRange (r e : List ℤ) : Type 0 where
    pub multipliers : (i : ℕ) → i < multiplier_count_of p → nat_abs (get_or r i (pos 0)) ≤ multiplier_bound_of p i
    pub errors : (i : ℕ) → i < error_count_of p → nat_abs (get_or e i (pos 0)) ≤ p.eta

  module _ {r e : List ℤ} (given : InRange r e) (i l : ℕ) (h : i < p.t) where
    -- number l of vector i of them
    pub multiplier_most : l < p.k + 1 → nat_abs (get_or (vector (p.k + 1) r i) l (pos 0)) ≤ vector_bound p i l
    unfolding multiplier_count_of
    multiplier_most k = vector_each (λ m z. nat_abs z ≤ multiplier_bound_of p m) (p.k + 1) p.t r (pos 0) given.multipliers i l h k

    pub error_most : l < p.d + p.k → nat_abs (get_or (vector (p.d + p.k) e i) l (pos 0)) ≤ p.eta
    unfolding error_count_of
    error_most k = vector_each (λ m z. nat_abs z ≤ p.eta) (p.d + p.k) p.t e (pos 0) given.errors i l h k

  module _ (kept : Rules p) where
    -- the bounds of both kinds of positions
    pub sizes_small : (2 ^ p.b1 ≤ 512) × (2 ^ p.b2 ≤ 512)
    sizes_small = (pow_mono {i = p.b1} {j = 9} (omega (arith, kept.bounds, kept.most_b2)), pow_mono kept.most_b2)

    -- their sum over all positions
    sizes_most : sum (multiplier_count_of p) (multiplier_bound_of p) ≤ 4194304
    unfolding multiplier_bound_of
    sizes_most =
        omega (
          arith,
          sum_mono (multiplier_count_of p) (multiplier_bound_of p) (λ i. 512) (λ i h. pow_mono {i = multiplier_bits_of p i} {j = 9} (bits_most p kept i)),
          sum_const (multiplier_count_of p) 512,
          kept.most_multipliers,
        )

    -- the products' part
    pub products_most : most_products_of p ≤ 16777216
    unfolding most_products_of
    products_most = mul-le-mul {n₁ = p.eta} {m₁ = sum (multiplier_count_of p) (multiplier_bound_of p)} {n₂ = 4} {m₂ = 4194304} kept.most_eta sizes_most

    -- the bits dropped
    pub dropped_most : most_dropped_of p < 8388608
    unfolding most_dropped_of
    dropped_most = omega (arith, kept.dropped, kept.odd, kept.small)

    -- so a ceiling has at most 25 bits
    pub ceiling_most : ceiling p < 2 ^ 25
    unfolding ceiling
    ceiling_most = omega (arith, products_most, dropped_most)
