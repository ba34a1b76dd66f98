-- Sealing place by place, and the answer of a sealing once its set and lengths are checked (01, Sealing).
-- Assumes nothing.
use mathlib.Core.Path.{◌≡◌, refl, sym, ap, ◌∙◌}
use mathlib.Core.Bool.{true}
use mathlib.Core.List.{List}
use Prim.Native.Nat.{ℕ, ◌+◌, ◌-◌, ◌*◌, ◌%◌, ◌≤◌, ◌<◌}
use native.Mathlib.Nat.{zero-mod, add-mod, mod-lt}
use native.Mathlib.Numerals.{add-one}
use native.Mathlib.Omega.{arith}
use lib.IntN.{ℤ}
use lib.ListN.{length, length-map}
use Rattle.maths.specs.Sum.{sum}
use Rattle.maths.specs.Vector.{at, tabulate, Below}
use Rattle.maths.specs.Product.{product, middle_product_of}
use Rattle.maths.specs.Congruence.{Mod}
use Rattle.maths.specs.Integer.{residue}
use Rattle.maths.proofs.Sum.{sum_none, sum_last}
use Rattle.maths.proofs.Vector.{tabulate_length, tabulate_at}
use Rattle.maths.proofs.Congruence.{mod_remainder, mod_sum}
use Rattle.maths.proofs.Product.{middle_product_at}
use Rattle.maths.proofs.Integer.{residue_lt}
use Rattle.calls.specs.Checks.{all_of}
use Rattle.sets.specs.declared.Parameters.{Parameters}
use Rattle.sets.specs.Table.{set_of, last_set}
use Rattle.sets.specs.Derived.{half_modulus_of, multiplier_count_of}
use Rattle.middle.proofs.OpenCall.{opening_passed}
use Rattle.calls.specs.Region.{vector}
use Rattle.calls.proofs.Region.{vector_length_lem}
use Rattle.numbers.specs.Scheme.{residues, sum_of_products, first_part_of, sum_of_middles, second_part}
use Rattle.numbers.specs.Operands.{Family}
use Rattle.numbers.specs.Calls.{sealing_shape, sealing_range, sealing_answer}
use Rattle.numbers.proofs.KeyLaws.{residues_at}

-- s is the sum of the first i of t terms modulo q
pub record Summed (q t : ℕ) (f : ℕ → ℕ) (i s : ℕ) : Type 0 where
  pub within : i ≤ t
  pub exact : s ≡ sum i f % q

module _ {q t : ℕ} {f : ℕ → ℕ} where
  -- before the first turn
  pub summed_none : Summed q t f 0 0
  summed_none = record { within = omega arith; exact = sym (rw sum_none (zero-mod q)) }

  -- a turn adds the next term
  pub summed_more : {i s x y : ℕ} → Summed q t f i s → i < t → y ≡ f i % q → x ≡ (s + y) % q → Summed q t f (i + 1) x
  summed_more {i} w h e a = record { within = omega arith; exact = rw (a, w.exact, e, add-one, sum_last, ← add-mod) }

  -- after the last turn
  pub summed_all : {i s : ℕ} → Summed q t f i s → t ≤ i → s ≡ sum t f % q
  summed_all {i} w h = let e : i ≡ t = omega (arith, w.within) in w.exact ∙ ap (λ (n : ℕ). sum n f % q) e

-- the terms of a sum of products
abbrev pub product_terms : ℕ → List ℕ → ℕ → List ℕ → ℕ → ℕ → ℕ
product_terms m xs n ys place i = product (vector m xs i) (vector n ys i) place

-- the sum of products is the sum of its terms
pub sum_of_products_terms : (t m : ℕ) (xs : List ℕ) (n : ℕ) (ys : List ℕ) (place : ℕ)
    → sum t (product_terms m xs n ys place) ≡ sum_of_products t m xs n ys place
unfolding sum_of_products
sum_of_products_terms t m xs n ys place = refl

-- the sum of the middle products is the sum of the products from place k on, modulo q
pub middles_products : (p : Parameters) (x b : List ℕ) (j : ℕ) → length x ≡ multiplier_count_of p → j < p.d
    → Mod p.q (sum_of_middles p x b j) (sum_of_products p.t (p.k + 1) x (p.d + p.k) b (p.k + j))
unfolding sum_of_middles sum_of_products multiplier_count_of
middles_products p x b j size h =
    mod_sum p.t _ _ (λ i inside.
    let u = vector (p.k + 1) x i in
    let v = vector (p.d + p.k) b i in
    let start : length u - 1 + j ≡ p.k + j = omega (arith, vector_length_lem (p.k + 1) p.t i x size inside) in
    let place : at (middle_product_of p.q u v p.d) j ≡ product u v (p.k + j) % p.q =
    middle_product_at p.q u v p.d j h ∙ ap (λ (l : ℕ). product u v l % p.q) start in
    rw place (mod_remainder p.q _))

-- the residues of whole numbers are a family
pub residues_family : (q m t : ℕ) (r : List ℤ) → 0 < q → length r ≡ t * m → Family q m t (residues q r)
residues_family q m t r some e = record { size = length-map r (residue q) ∙ e; each = λ k h. rw residues_at (residue_lt q _ some) }

module _ (p : Parameters) (a : List ℕ) (r : List ℤ) where
  -- c1 from the residues of r
  pub first_part_from : {rs : List ℕ} → rs ≡ residues p.q r
      → tabulate (p.n + p.k) (λ j. sum_of_products p.t (p.k + 1) rs p.n a j % p.q) ≡ first_part_of p a r
  unfolding first_part_of
  first_part_from e = rw e

  -- c1 has n + k numbers
  pub first_part_length : length (first_part_of p a r) ≡ p.n + p.k
  unfolding first_part_of
  first_part_length = tabulate_length (p.n + p.k) _

  -- the number at a place
  pub first_part_at : (j : ℕ) → j < p.n + p.k → at (first_part_of p a r) j ≡ sum_of_products p.t (p.k + 1) (residues p.q r) p.n a j % p.q
  unfolding first_part_of
  first_part_at j h = tabulate_at (p.n + p.k) _ j h

  -- it is a residue
  pub first_part_below : 0 < p.q → Below p.q (first_part_of p a r)
  first_part_below some j h = rw (first_part_at j (rw first_part_length at h)) (mod-lt _ some)

module _ (p : Parameters) (b : List ℕ) (r : List ℤ) (m : List ℕ) where
  -- c2 from the residues of r
  pub second_part_from : {rs : List ℕ} → rs ≡ residues p.q r
      → tabulate p.d (λ j. (sum_of_middles p rs b j + half_modulus_of p * at m j) % p.q) ≡ second_part p b r m
  unfolding second_part
  second_part_from e = rw e

  -- c2 has d numbers
  pub second_part_length : length (second_part p b r m) ≡ p.d
  unfolding second_part
  second_part_length = tabulate_length p.d _

  -- the number at a place
  pub second_part_at : (j : ℕ) → j < p.d → at (second_part p b r m) j ≡ (sum_of_middles p (residues p.q r) b j + half_modulus_of p * at m j) % p.q
  unfolding second_part
  second_part_at j h = tabulate_at p.d _ j h

  -- it is a residue
  pub second_part_below : 0 < p.q → Below p.q (second_part p b r m)
  second_part_below some j h = rw (second_part_at j (rw second_part_length at h)) (mod-lt _ some)

-- the numbers decide
pub sealing_numbers : (set : ℕ) (p : Parameters) (a b : List ℕ) (r : List ℤ) (m : List ℕ) (c1 c2 : ℕ) → p ≡ set_of set → set ≤ last_set
    → all_of (sealing_shape p (length a) (length b) (length r) (length m) c1 c2) ≡ true → sealing_answer set a b r m c1 c2 ≡ sealing_range p a b r m
unfolding sealing_answer
sealing_numbers set p a b r m c1 c2 same h fits = rw same (opening_passed set _ 2 _ h (rw same at fits))
