-- 01's bench sheet, whole: from the Bench bytes 0, 3 5, 1 2 3 4, 1 0 255, 1 254, 1 0 to the bytes of its text (01, The bench sheet).
-- Assumes nothing.
use Rattle.std.specs.Prelude.{◌≡◌, refl, List, [], ◌∷◌, ℕ}
use Rattle.maths.specs.Vector.{tabulate}
use Rattle.maths.specs.Sum.{sum}
use Rattle.maths.specs.Product.{product, middle_product_of}
use Rattle.maths.specs.Integer.{residue, sum_ℤ, product_ℤ}
use Rattle.maths.specs.Rounding.{floor_bit_of}
use Rattle.calls.specs.Checks.{passing, refuse_first}
use Rattle.calls.specs.Region.{region, joined}
use Rattle.sets.specs.Table.{none, table, set_of}
use Rattle.sets.specs.Derived.{half_modulus_of, multiplier_count_of, multiplier_bits_of, multiplier_bound_of}
use Rattle.numbers.specs.Scheme.{key_part, key, sum_of_products, first_part_of, sum_of_middles, second_part, opened, rounded_bit_of, reading}
use Rattle.numbers.specs.Noise.{numbers_noise}
use Rattle.draws.specs.Calls.{in_turn}
use Rattle.sheet_bench.specs.Bench as bench
use Rattle.sheet_text.specs.Decimal as decimal
use Rattle.sheet_order.specs.Sorting.{inserted_by, insert_by, by_key, higher, lower}
use Rattle.sheet_order.specs.Order.{shown, ordered, before, size_at, negative_at, negative}
use Rattle.sheet_text.specs.Text.{header, row, rows, ceiling_word, half_word, last_line, sheet_text, refused_word, refused_text}
use Rattle.ceiling.specs.Ceiling.{most_products_of, most_dropped_of, ceiling}
use Rattle.sheet_parts.specs.Checks.{has_sheet_of, input_bytes_of, set_byte_of, input_answer}
use Rattle.sheet_rows.specs.Input.{handed_in, row_noise, row_sent, row_read, rows_answer}
use Rattle.sheet.specs.Sheet.{sheet_answer, rows_text, sheet_of}

-- a 3 5, s 1 2 3 4, e 1 0 −1, r 1 −2, message 1 0
abbrev example : List ℕ
example = 0 ∷ 3 ∷ 5 ∷ 1 ∷ 2 ∷ 3 ∷ 4 ∷ 1 ∷ 0 ∷ 255 ∷ 1 ∷ 254 ∷ 1 ∷ 0 ∷ []

-- place noise sent read
-- 0 -2 1 1
-- 1 -1 0 0
-- ceiling 4 half 8
sheet_of_example :
    sheet_of example ≡
    112 ∷ 108 ∷ 97 ∷ 99 ∷ 101 ∷ 32 ∷ 110 ∷ 111 ∷ 105 ∷ 115 ∷ 101 ∷ 32 ∷ 115 ∷ 101 ∷ 110 ∷ 116 ∷ 32 ∷ 114 ∷ 101 ∷ 97 ∷ 100 ∷ 10 ∷
    48 ∷ 32 ∷ 45 ∷ 50 ∷ 32 ∷ 49 ∷ 32 ∷ 49 ∷ 10 ∷
    49 ∷ 32 ∷ 45 ∷ 49 ∷ 32 ∷ 48 ∷ 32 ∷ 48 ∷ 10 ∷
    99 ∷ 101 ∷ 105 ∷ 108 ∷ 105 ∷ 110 ∷ 103 ∷ 32 ∷ 52 ∷ 32 ∷ 104 ∷ 97 ∷ 108 ∷ 102 ∷ 32 ∷ 56 ∷ 10 ∷ []
unfolding sheet_of sheet_answer input_answer set_byte_of has_sheet_of input_bytes_of rows_answer rows_text row_noise row_sent row_read ceiling most_products_of
    most_dropped_of
    half_modulus_of multiplier_count_of none table set_of bench.bench_answer bench.bench_fits bench.signed handed_in in_turn refuse_first passing
    multiplier_bound_of
    multiplier_bits_of region numbers_noise product_ℤ sum_ℤ joined tabulate sum product middle_product_of residue floor_bit_of key_part key sum_of_products
    first_part_of
    sum_of_middles second_part opened rounded_bit_of reading sheet_text header rows row last_line ceiling_word half_word shown ordered inserted_by insert_by
    before
    by_key higher lower size_at negative_at negative decimal.signed decimal.decimal decimal.digits
sheet_of_example = refl

-- refused 2 0, for an empty input
sheet_of_example₂ : sheet_of [] ≡ 114 ∷ 101 ∷ 102 ∷ 117 ∷ 115 ∷ 101 ∷ 100 ∷ 32 ∷ 50 ∷ 32 ∷ 48 ∷ 10 ∷ []
unfolding sheet_of sheet_answer input_answer refused_text refused_word decimal.decimal decimal.digits
sheet_of_example₂ = refl
