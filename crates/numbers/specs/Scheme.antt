-- Key, sealing and reading on numbers (01, Arithmetic). Vectors of a family stand one after the other in one list.
-- Assumes nothing.
use Rattle.std.specs.Prelude.{cond, List, map, ℕ, ◌+◌, ◌-◌, ◌*◌, ◌%◌, eqb, ℤ}
use Rattle.maths.specs.Vector.{at, tabulate}
use Rattle.maths.specs.Sum.{sum}
use Rattle.maths.specs.Product.{product, middle_product_of}
use Rattle.maths.specs.Integer.{residue}
use Rattle.maths.specs.Rounding.{floor_bit_of, centred_bit}
use Rattle.calls.specs.Region.{vector, joined}
use Rattle.sets.specs.declared.Parameters.{Parameters}
use Rattle.sets.specs.Derived.{half_modulus_of}

-- the residues of whole numbers
abbrev pub residues : ℕ → List ℤ → List ℕ
residues q zs = map (residue q) zs

-- b_i: the middle product of a_i (n numbers) and s, giving d + k, plus e_i
unfoldable pub key_part : Parameters → List ℕ → List ℕ → List ℤ → ℕ → List ℕ
key_part p a s e i =
    let middle = middle_product_of p.q (vector p.n a i) s (p.d + p.k) in
    let errors = residues p.q (vector (p.d + p.k) e i) in
    tabulate (p.d + p.k) (λ j. (at middle j + at errors j) % p.q)

-- b: the vectors b_0, b_1, .., b_(t − 1)
unfoldable pub key : Parameters → List ℕ → List ℕ → List ℤ → List ℕ
key p a s e = joined p.t (key_part p a s e)

-- place j of the sum of the products x_i · y_i, over two families of t vectors
unfoldable pub sum_of_products : ℕ → ℕ → List ℕ → ℕ → List ℕ → ℕ → ℕ
sum_of_products t m x n y j = sum t (λ i. product (vector m x i) (vector n y i) j)

-- c1: the sum of the full products r_i · a_i, n + k numbers
unfoldable pub first_part_of : Parameters → List ℕ → List ℤ → List ℕ
first_part_of p a r = tabulate (p.n + p.k) (λ j. sum_of_products p.t (p.k + 1) (residues p.q r) p.n a j % p.q)

-- place j of the sum of the middle products of x_i (k + 1 numbers) and b_i (d + k), giving d
unfoldable pub sum_of_middles : Parameters → List ℕ → List ℕ → ℕ → ℕ
sum_of_middles p x b j = sum p.t (λ i. at (middle_product_of p.q (vector (p.k + 1) x i) (vector (p.d + p.k) b i) p.d) j)

-- c2: the sum of the middle products of r_i and b_i, plus h times the message bit, d numbers
unfoldable pub second_part : Parameters → List ℕ → List ℤ → List ℕ → List ℕ
second_part p b r m = tabulate p.d (λ j. (sum_of_middles p (residues p.q r) b j + half_modulus_of p * at m j) % p.q)

-- w: c2 less the middle product of c1 and s
unfoldable pub opened : Parameters → List ℕ → List ℕ → List ℕ → ℕ → ℕ
opened p c1 c2 s j = (at c2 j + (p.q - at (middle_product_of p.q c1 s p.d) j)) % p.q

-- the bit that a number is read as: 01's formula for set 0, 003's Round for sets 1 to 12
unfoldable pub rounded_bit_of : ℕ → Parameters → ℕ → ℕ
rounded_bit_of set p w = cond (eqb set 0) (floor_bit_of (half_modulus_of p) w) (centred_bit (half_modulus_of p) w)

unfoldable pub reading : ℕ → Parameters → List ℕ → List ℕ → List ℕ → List ℕ
reading set p c1 c2 s = tabulate p.d (λ j. rounded_bit_of set p (opened p c1 c2 s j))
