-- Set 0, Bench, on the bench sheet (01, The bench sheet, Noise): the numbers in a sheet's input of 14 bytes, the answer, and the numbers of the rows.
-- Assumes nothing.
use Rattle.std.specs.Prelude.{◌≡◌, refl, Bool, true, cond, List, [], ◌∷◌, map, ℕ, ◌-◌, ltb, ℤ, pos, negsuc}
use Rattle.maths.specs.Vector.{tabulate}
use Rattle.maths.specs.Sum.{sum}
use Rattle.maths.specs.Product.{product, middle_product_of}
use Rattle.maths.specs.Integer.{residue, sum_ℤ, product_ℤ}
use Rattle.maths.specs.Rounding.{floor_bit_of}
use Rattle.calls.specs.Outcome.{Outcome, accepted, refused}
use Rattle.calls.specs.Checks.{passing, refuse_first, below}
use Rattle.calls.specs.Region.{region, joined}
use Rattle.sets.specs.declared.Parameters.{Parameters}
use Rattle.sets.specs.Table.{none, table, set_of}
use Rattle.sets.specs.Derived.{half_modulus_of, multiplier_bits_of, multiplier_bound_of}
use Rattle.numbers.specs.Scheme.{key_part, key, sum_of_products, first_part_of, sum_of_middles, second_part, opened, rounded_bit_of, reading}
use Rattle.numbers.specs.Calls.{is_error, is_multiplier_of}
use Rattle.numbers.specs.Noise.{numbers_noise}
use Rattle.claim.specs.Claim.{Handed, on_numbers, first_of, second_of}

-- the parameters of set 0
abbrev pub bench : Parameters
bench = set_of 0

-- a byte in two's complement
unfoldable pub signed : ℕ → ℤ
signed byte = cond (ltb byte 128) (pos byte) (negsuc (255 - byte))

-- the numbers of an input, after its set byte: a (2), s (4), e (3), r (2) and the message bits (2)
abbrev pub bench_public : List ℕ → List ℕ
bench_public input = region input 1 2

abbrev pub bench_secret : List ℕ → List ℕ
bench_secret input = region input 3 4

abbrev pub bench_errors : List ℕ → List ℤ
bench_errors input = map signed (region input 7 3)

abbrev pub bench_multipliers : List ℕ → List ℤ
bench_multipliers input = map signed (region input 10 2)

abbrev pub bench_message : List ℕ → List ℕ
bench_message input = region input 12 2

-- what such an input hands in
abbrev pub bench_handed : List ℕ → Handed
bench_handed input = on_numbers (bench_public input) (bench_secret input) (bench_errors input) (bench_multipliers input) (bench_message input)

-- whether the byte at a place of the input is in range: place 0 is the set byte, whose value the caller has seen
unfoldable pub bench_fits : ℕ → ℕ → Bool
bench_fits place byte =
    cond (ltb place 1) true
    (cond (ltb place 7) (below bench.q place byte)
    (cond (ltb place 10) (is_error bench.eta place (signed byte))
    (cond (ltb place 12) (is_multiplier_of bench (place - 10) (signed byte)) (below 2 place byte))))

-- refused with 3 at the first byte out of range, its place counted from the set byte at 0
unfoldable pub bench_answer : List ℕ → Outcome
bench_answer input = refuse_first bench_fits 0 0 input accepted

-- the noise at places 0 and 1
unfoldable pub bench_noise : List ℕ → List ℤ
bench_noise input = map (numbers_noise bench (bench_errors input) (bench_multipliers input)) (0 ∷ 1 ∷ [])

-- the bits that reading gives on what key and sealing give
unfoldable pub bench_read : List ℕ → List ℕ
bench_read input =
    reading 0 bench (first_of 0 (bench_public input) (bench_multipliers input))
    (second_of 0 (bench_public input) (bench_secret input) (bench_errors input) (bench_multipliers input) (bench_message input)) (bench_secret input)

-- 01's example: a 3 5, s 1 2 3 4, e 1 0 −1, r 1 −2, message 1 0
abbrev example : List ℕ
example = 0 ∷ 3 ∷ 5 ∷ 1 ∷ 2 ∷ 3 ∷ 4 ∷ 1 ∷ 0 ∷ 255 ∷ 1 ∷ 254 ∷ 1 ∷ 0 ∷ []

bench_answer_example : bench_answer example ≡ accepted
unfolding bench_answer bench_fits signed refuse_first passing none table set_of multiplier_bound_of multiplier_bits_of
bench_answer_example = refl

bench_noise_example : bench_noise example ≡ negsuc 1 ∷ negsuc 0 ∷ []
unfolding bench_noise signed region none table set_of numbers_noise product_ℤ sum_ℤ
bench_noise_example = refl

bench_read_example : bench_read example ≡ 1 ∷ 0 ∷ []
unfolding bench_read signed none table set_of half_modulus_of region joined tabulate sum product middle_product_of residue floor_bit_of key_part key
    sum_of_products first_part_of
    sum_of_middles second_part opened rounded_bit_of reading
bench_read_example = refl

-- 17 stands for no residue, at place 2
bench_answer_example₂ : bench_answer (0 ∷ 3 ∷ 17 ∷ 1 ∷ 2 ∷ 3 ∷ 4 ∷ 1 ∷ 0 ∷ 255 ∷ 1 ∷ 254 ∷ 1 ∷ 0 ∷ []) ≡ refused 3 2
unfolding bench_answer bench_fits signed refuse_first passing none table set_of multiplier_bound_of multiplier_bits_of
bench_answer_example₂ = refl

-- 0 is no multiplier, at place 10
bench_answer_example₃ : bench_answer (0 ∷ 3 ∷ 5 ∷ 1 ∷ 2 ∷ 3 ∷ 4 ∷ 1 ∷ 0 ∷ 255 ∷ 0 ∷ 254 ∷ 1 ∷ 0 ∷ []) ≡ refused 3 10
unfolding bench_answer bench_fits signed refuse_first passing none table set_of multiplier_bound_of multiplier_bits_of
bench_answer_example₃ = refl
