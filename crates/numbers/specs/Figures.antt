-- The bench figures (01, Bench figures): one table of what the definitions give, beside one table of 01's numbers.
-- Assumes nothing.
use Rattle.std.specs.Prelude.{◌≡◌, refl, List, [], ◌∷◌, map, ℕ, ◌+◌, ◌*◌, ◌%◌, ℤ, pos, negsuc}
use Rattle.maths.specs.Vector.{tabulate}
use Rattle.maths.specs.Sum.{sum}
use Rattle.maths.specs.Product.{product, middle_product_of}
use Rattle.maths.specs.Transform.{transform_at, transform}
use Rattle.maths.specs.Integer.{residue}
use Rattle.maths.specs.Rounding.{floor_bit_of}
use Rattle.calls.specs.Region.{region, joined}
use Rattle.sets.specs.declared.Parameters.{Parameters}
use Rattle.sets.specs.Table.{none, table, set_of}
use Rattle.sets.specs.Derived.{half_modulus_of}
use Rattle.numbers.specs.Scheme.{key_part, key, sum_of_products, first_part_of, sum_of_middles, second_part, opened, rounded_bit_of, reading}

bench : Parameters
bench = set_of 0

-- the numbers of the figures, as 01 gives them
a : List ℕ
a = 3 ∷ 5 ∷ []

s : List ℕ
s = 1 ∷ 2 ∷ 3 ∷ 4 ∷ []

e : List ℤ
e = pos 1 ∷ pos 0 ∷ negsuc 0 ∷ []

r : List ℤ
r = pos 1 ∷ negsuc 1 ∷ []

message : List ℕ
message = 1 ∷ 0 ∷ []

-- what key and sealing make of them
b : List ℕ
b = key bench a s e

c1 : List ℕ
c1 = first_part_of bench a r

c2 : List ℕ
c2 = second_part bench b r message

-- what bit 0 with a noise is read as
read_with : ℤ → ℕ
read_with z = rounded_bit_of 0 bench ((residue bench.q z + half_modulus_of bench * 0) % bench.q)

-- figures 1 to 6, then 7 to 11: noise 3, −3, 4, −4, −5, 6, −6, 11, 12
computed : List (List ℕ)
computed =
    middle_product_of bench.q a s 3 ∷
    b ∷
    c1 ∷
    c2 ∷
    tabulate bench.d (opened bench c1 c2 s) ∷
    reading 0 bench c1 c2 s ∷
    transform bench.q bench.d3 bench.w3 s ∷
    map read_with (pos 3 ∷ negsuc 2 ∷ pos 4 ∷ negsuc 3 ∷ negsuc 4 ∷ pos 6 ∷ negsuc 5 ∷ pos 11 ∷ pos 12 ∷ []) ∷ []

figures : List (List ℕ)
figures =
    (11 ∷ 2 ∷ 10 ∷ []) ∷
    (12 ∷ 2 ∷ 9 ∷ []) ∷
    (3 ∷ 16 ∷ 7 ∷ []) ∷
    (3 ∷ 5 ∷ []) ∷
    (6 ∷ 16 ∷ []) ∷
    (1 ∷ 0 ∷ []) ∷
    (10 ∷ 7 ∷ 15 ∷ 6 ∷ []) ∷
    (0 ∷ 0 ∷ 1 ∷ 0 ∷ 0 ∷ 1 ∷ 1 ∷ 1 ∷ 0 ∷ []) ∷ []

bench_figures : computed ≡ figures
unfolding bench a s e r message b c1 c2 read_with computed figures none table set_of half_modulus_of
    region joined tabulate sum product middle_product_of transform_at transform residue floor_bit_of key_part key sum_of_products first_part_of sum_of_middles
    second_part opened
    rounded_bit_of reading
bench_figures = refl
