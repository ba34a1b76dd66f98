-- Digits of a number in one width and in another (003, algorithms 17, 18, 20, 21): the digits of a value are what it was made of, and packing can be undone.
-- Assumes nothing.
use mathlib.Core.Path.{◌≡◌, refl, sym, ap, ap₂, ◌∙◌}
use mathlib.Core.List.{List, [], ◌∷◌}
use Prim.Native.Nat.{ℕ, zero, suc, ◌+◌, ◌-◌, ◌*◌, ◌/◌, ◌%◌, ◌^◌, ◌≤◌, ◌<◌}
use native.Mathlib.Nat.{mul-zero, mul-suc, pow-zero, div-one, zero-div, zero-mod, mul-add, mul-one, mul_assoc, add_assoc, add_comm, suc-add, mul-le-mul_left}
use native.Mathlib.Nat.{lt_of_lt_of_le, div-div-eq-div-mul, add-mul-div_left, div-eq_of_lt, mod-eq_of_lt, mod-lt, add-mul-mod_self_left, mod-add-div}
use native.Mathlib.Nat.{div-lt_iff_lt-mul}
use native.Mathlib.Decide.{dec_lt}
use native.Mathlib.Numerals.{one-add}
use native.Mathlib.Omega.{arith}
use lib.ListN.{length, drop}
use lib.Pow.{pow-add, pow_pos, pow_mono}
use Rattle.maths.specs.Vector.{at, tabulate}
use Rattle.maths.proofs.Vector.{tabulate_length, tabulate_at, tabulate_past, tabulate_append, tabulate_cong, tabulate_unique}
use Rattle.packing.specs.Digits.{value, digits, pack, unpack, four_bytes, Digit}

-- the value of the digits from place i on
pub value_drop : (bits i : ℕ) (xs : List ℕ) → Digit bits xs → value bits xs / 2 ^ (bits * i) ≡ value bits (drop i xs)
unfolding value
value_drop bits zero xs h = rw (mul-zero, pow-zero, div-one)
value_drop bits (suc i) [] h = zero-div (2 ^ (bits * suc i))
value_drop bits (suc i) (x ∷ xs) h =
    let split : 2 ^ (bits * suc i) ≡ 2 ^ bits * 2 ^ (bits * i) = rw (mul-suc, add_comm (bits * i) bits, pow-add) in
    let first : (x + 2 ^ bits * value bits xs) / 2 ^ bits ≡ value bits xs =
    add-mul-div_left x (value bits xs) (pow_pos bits) ∙ ap (λ (n : ℕ). n + value bits xs) (div-eq_of_lt (h 0)) ∙ omega arith
    in
    rw (split, ← div-div-eq-div-mul (x + 2 ^ bits * value bits xs) (2 ^ bits) (2 ^ (bits * i)), first) (value_drop bits i xs (λ k. h (suc k)))

-- the digit at place i of a value
pub value_digit : (bits i : ℕ) (xs : List ℕ) → Digit bits xs → value bits xs / 2 ^ (bits * i) % 2 ^ bits ≡ at xs i
unfolding value
value_digit bits i xs h = rw (value_drop bits i xs) (low i xs h)
  where
    low : (i : ℕ) (xs : List ℕ) → Digit bits xs → value bits (drop i xs) % 2 ^ bits ≡ at xs i
    low zero [] h = zero-mod (2 ^ bits)
    low zero (x ∷ xs) h = add-mul-mod_self_left x (2 ^ bits) (value bits xs) ∙ mod-eq_of_lt (h 0)
    low (suc i) [] h = zero-mod (2 ^ bits)
    low (suc i) (x ∷ xs) h = low i xs (λ k. h (suc k))

-- digits give back the value that they were taken from
pub digits_value : (bits : ℕ) (xs : List ℕ) → Digit bits xs → digits bits (length xs) (value bits xs) ≡ xs
unfolding digits
digits_value bits xs h = sym (tabulate_unique (length xs) (λ i. value bits xs / 2 ^ (bits * i) % 2 ^ bits) xs refl (λ i low. sym (value_digit bits i xs h)))

-- as many digits as were asked for
digits_length : (bits count number : ℕ) → length (digits bits count number) ≡ count
unfolding digits
digits_length bits count number = tabulate_length count _

-- each digit has its width
digits_below : (bits count number : ℕ) → Digit bits (digits bits count number)
unfolding digits
digits_below bits count number k =
    elim (dec_lt k count) [
      | yes within ↦ rw (tabulate_at count _ k within) (mod-lt _ (pow_pos bits))
      | no past ↦ rw (tabulate_past count _ k (omega arith)) (pow_pos bits)
    ]

-- one digit more at the front
digits_first : (bits count number : ℕ) → digits bits (1 + count) number ≡ number % 2 ^ bits ∷ digits bits count (number / 2 ^ bits)
unfolding digits tabulate
digits_first bits count number =
    tabulate_append 1 count (λ i. number / 2 ^ (bits * i) % 2 ^ bits)
    ∙ ap₂ (λ (x : ℕ) (xs : List ℕ). x ∷ xs) (rw (mul-zero, pow-zero, div-one))
    (tabulate_cong count (λ i. number / 2 ^ (bits * (1 + i)) % 2 ^ bits) (λ i. number / 2 ^ bits / 2 ^ (bits * i) % 2 ^ bits) later)
  where
    later : (i : ℕ) → i < count → number / 2 ^ (bits * (1 + i)) % 2 ^ bits ≡ number / 2 ^ bits / 2 ^ (bits * i) % 2 ^ bits
    later i h = rw (mul-add, mul-one, pow-add, div-div-eq-div-mul)

-- the value of enough digits of a number is the number
pub value_digits : (bits count number : ℕ) → number < 2 ^ (bits * count) → value bits (digits bits count number) ≡ number
unfolding digits value tabulate
value_digits bits zero number h = let low : number < 1 = rw (mul-zero, pow-zero) at h in omega arith
value_digits bits (suc count) number h =
    let split : 2 ^ (bits * suc count) ≡ 2 ^ (bits * count) * 2 ^ bits = rw (mul-suc, pow-add) in
    let rest : number / 2 ^ bits < 2 ^ (bits * count) = (div-lt_iff_lt-mul (pow_pos bits)).1 (rw split at h) in
    ap (value bits) (ap (λ (m : ℕ). digits bits m number) (sym (one-add count)) ∙ digits_first bits count number)
    ∙ ap (λ (v : ℕ). number % 2 ^ bits + 2 ^ bits * v) (value_digits bits count (number / 2 ^ bits) rest)
    ∙ mod-add-div number (2 ^ bits)

-- a value is as small as its digits allow
pub value_below : (bits : ℕ) (xs : List ℕ) → Digit bits xs → value bits xs < 2 ^ (bits * length xs)
unfolding value
value_below bits [] h = rw (mul-zero, pow-zero) (omega arith)
value_below bits (x ∷ xs) h =
    let split : 2 ^ (bits * suc (length xs)) ≡ 2 ^ bits * 2 ^ (bits * length xs) = rw (mul-suc, add_comm (bits * length xs) bits, pow-add) in
    let whole : 2 ^ bits * suc (value bits xs) ≤ 2 ^ bits * 2 ^ (bits * length xs) = mul-le-mul_left (2 ^ bits) (value_below bits xs (λ k. h (suc k))) in
    rw split (omega (arith, h 0))

-- digits of one width, read again in digits of another and back
repacked : (from to count : ℕ) (xs : List ℕ) → Digit from xs → from * length xs ≤ to * count
    → digits from (length xs) (value to (digits to count (value from xs))) ≡ xs
repacked from to count xs h fits =
    let small : value from xs < 2 ^ (to * count) = lt_of_lt_of_le (value_below from xs h) (pow_mono fits) in
    rw (value_digits to count (value from xs) small) (digits_value from xs h)

-- unpacking what was packed gives it back
pub unpack_pack : (width bytes : ℕ) (xs : List ℕ) → Digit width xs → width * length xs ≤ 8 * bytes → unpack width (length xs) (pack width bytes xs) ≡ xs
unfolding pack unpack
unpack_pack width bytes xs h fits = repacked width 8 bytes xs h fits

-- packing what was unpacked gives it back, where every bit was taken
pub pack_unpack : (width count : ℕ) (bytes : List ℕ) → Digit 8 bytes → 8 * length bytes ≤ width * count
    → pack width (length bytes) (unpack width count bytes) ≡ bytes
unfolding pack unpack
pack_unpack width count bytes h fits = repacked 8 width count bytes h fits

-- as many bytes as were asked for
pub pack_length : (width count : ℕ) (xs : List ℕ) → length (pack width count xs) ≡ count
unfolding pack
pack_length width count xs = digits_length 8 count _

-- packed numbers are bytes
pub pack_below : (width count : ℕ) (xs : List ℕ) → Digit 8 (pack width count xs)
unfolding pack
pack_below width count xs = digits_below 8 count _

-- as many numbers as were asked for
pub unpack_length : (width count : ℕ) (bytes : List ℕ) → length (unpack width count bytes) ≡ count
unfolding unpack
unpack_length width count bytes = digits_length width count _

-- unpacked numbers have width bits
pub unpack_below : (width count : ℕ) (bytes : List ℕ) → Digit width (unpack width count bytes)
unfolding unpack
unpack_below width count bytes = digits_below width count _

-- the digit at place i, and the rest
pub value_at : (bits i : ℕ) (xs : List ℕ) → value bits (drop i xs) ≡ at xs i + 2 ^ bits * value bits (drop (i + 1) xs)
unfolding value
value_at bits zero [] = omega (arith, mul-zero (2 ^ bits))
value_at bits zero (x ∷ xs) = refl
value_at bits (suc i) [] = rw suc-add (omega (arith, mul-zero (2 ^ bits)))
value_at bits (suc i) (x ∷ xs) = value_at bits i xs ∙ rw suc-add

-- what lies m bits up does not touch k bits from a bit on, where bit + k is at most m
pub window_digit : (m bit k window rest : ℕ) → bit + k ≤ m → (window + 2 ^ m * rest) / 2 ^ bit % 2 ^ k ≡ window / 2 ^ bit % 2 ^ k
window_digit m bit k window rest fits =
    let split : 2 ^ m ≡ 2 ^ bit * (2 ^ k * 2 ^ (m - (bit + k))) = rw (← pow-add 2 k (m - (bit + k)), ← pow-add) (ap (λ (n : ℕ). 2 ^ n) (omega arith)) in
    let grouped : 2 ^ m * rest ≡ 2 ^ bit * (2 ^ k * (2 ^ (m - (bit + k)) * rest)) = rw split (rw (mul_assoc, mul_assoc)) in
    rw (grouped, add-mul-div_left window (2 ^ k * (2 ^ (m - (bit + k)) * rest)) (pow_pos bit))
    (add-mul-mod_self_left (window / 2 ^ bit) (2 ^ k) (2 ^ (m - (bit + k)) * rest))

-- a byte of packed numbers lies in two of them, where a number has 8 bits or more
pub packed_byte : (width i bit j : ℕ) (xs : List ℕ) → Digit width xs → 8 ≤ width → bit < width → width * i + bit ≡ 8 * j
    → value width xs / 2 ^ (8 * j) % 2 ^ 8 ≡ (at xs i + 2 ^ width * at xs (i + 1)) / 2 ^ bit % 2 ^ 8
packed_byte width i bit j xs h wide low place =
    let two : value width (drop i xs) ≡ at xs i + 2 ^ width * at xs (i + 1) + 2 ^ (width + width) * value width (drop (i + 1 + 1) xs) =
    value_at width i xs ∙ rw (value_at width (i + 1) xs, pow-add) (omega arith)
    in
    rw (← place, pow-add, ← div-div-eq-div-mul, value_drop width i xs, two)
    (window_digit (width + width) bit 8 (at xs i + 2 ^ width * at xs (i + 1)) (value width (drop (i + 1 + 1) xs)) (omega arith))

-- a number of packed bytes lies in four of them, where a number has at most 24 bits
pub unpacked_number : (width i bit j : ℕ) (bytes : List ℕ) → Digit 8 bytes → width ≤ 24 → bit < 8 → 8 * j + bit ≡ width * i
    → value 8 bytes / 2 ^ (width * i) % 2 ^ width ≡ four_bytes bytes j / 2 ^ bit % 2 ^ width
unpacked_number width i bit j bytes h narrow low place =
    let four : value 8 (drop j bytes) ≡ four_bytes bytes j + 2 ^ 32 * value 8 (drop (j + 4) bytes) =
    omega (
      arith,
      value_at 8 j bytes,
      rw add_assoc at (value_at 8 (j + 1) bytes),
      rw add_assoc at (value_at 8 (j + 2) bytes),
      rw add_assoc at (value_at 8 (j + 3) bytes),
    )
    in
    rw (← place, pow-add, ← div-div-eq-div-mul, value_drop 8 j bytes, four)
    (window_digit 32 bit width (four_bytes bytes j) (value 8 (drop (j + 4) bytes)) (omega arith))
