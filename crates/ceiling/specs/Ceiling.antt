-- The ceiling of a set, which no size of noise exceeds and which the last line of a sheet shows (01, The bench sheet; 02, No. 5).
-- Assumes nothing.
use Rattle.std.specs.Prelude.{◌≡◌, refl, [], ◌∷◌, map, ℕ, ◌+◌, ◌-◌, ◌*◌, ◌^◌}
use Rattle.maths.specs.Sum.{sum}
use Rattle.sets.specs.declared.Parameters.{Parameters}
use Rattle.sets.specs.Table.{none, table, set_of}
use Rattle.sets.specs.Derived.{multiplier_count_of, multiplier_bits_of, multiplier_bound_of}

-- the products' part: η times the sum of B/2 over every multiplier position of one result, each with its own B
unfoldable pub most_products_of : Parameters → ℕ
most_products_of p = p.eta * sum (multiplier_count_of p) (multiplier_bound_of p)

-- the largest size that packing can drop at one place: the cmp low bits of a number, all of them 1
unfoldable pub most_dropped_of : Parameters → ℕ
most_dropped_of p = 2 ^ p.cmp - 1

-- the ceiling: both parts
unfoldable pub ceiling : Parameters → ℕ
ceiling p = most_products_of p + most_dropped_of p

-- set 0: two positions of size 2, errors of size 1, nothing dropped
ceiling_example : ceiling (set_of 0) ≡ 4
unfolding ceiling most_products_of most_dropped_of sum multiplier_count_of multiplier_bits_of multiplier_bound_of none table set_of
ceiling_example = refl

-- set 1: 1,488 positions of size 128 and 1,072 of size 256, errors of size 4, ten bits dropped
ceiling_example₂ : ceiling (set_of 1) ≡ 4 * (1488 * 128 + 1072 * 256) + 1023
unfolding ceiling most_products_of most_dropped_of sum multiplier_count_of multiplier_bits_of multiplier_bound_of none table set_of
ceiling_example₂ = refl

-- the ceilings of sets 1 to 6
ceiling_example₃ : map (λ set. ceiling (set_of set)) (1 ∷ 2 ∷ 3 ∷ 4 ∷ 5 ∷ 6 ∷ []) ≡ 1860607 ∷ 792063 ∷ 851455 ∷ 2766847 ∷ 7548927 ∷ 10747903 ∷ []
unfolding ceiling most_products_of most_dropped_of sum multiplier_count_of multiplier_bits_of multiplier_bound_of none table set_of
ceiling_example₃ = refl
