-- What packing drops and what comes back (003, algorithms 11, 19 and 22), and the digits that the code takes one by one.
-- Assumes nothing.
use mathlib.Core.Path.{◌≡◌, refl, sym, ap, ◌∙◌}
use mathlib.Core.List.{List, [], ◌∷◌, map}
use Prim.Native.Nat.{ℕ, zero, suc, ◌+◌, ◌-◌, ◌*◌, ◌/◌, ◌%◌, ◌^◌, ◌≤◌, ◌<◌}
use native.Mathlib.Nat.{div-one, zero-div, zero-mul, mul-one, mul-lt-mul_of_pos_right, sub-zero, sub-add_cancel, div-lt_iff_lt-mul, mod-add-div', mod-lt}
use native.Mathlib.Omega.{arith}
use lib.ListN.{length, length-map}
use lib.Pow.{pow-add, pow_pos}
use Rattle.maths.specs.Vector.{at, tabulate}
use Rattle.maths.proofs.Vector.{tabulate_length, tabulate_at, map_at}
use Rattle.packing.specs.Digits.{digits, pack, unpack, four_bytes, Digit}
use Rattle.packing.specs.Dropped.{chop, high_parts, pack_dropping_of, unpack_dropped_of, Widths}
use Rattle.packing.proofs.Digits.{unpack_pack, packed_byte, unpacked_number, pack_length, unpack_length, unpack_below}
use Rattle.packing.proofs.Position.{Position}

-- what is left of a number and what is dropped make the number
pub chop_dropped : (cmp x : ℕ) → chop cmp x + x % 2 ^ cmp ≡ x
unfolding chop
chop_dropped cmp x = omega (arith, mod-add-div' x (2 ^ cmp))

-- what is dropped is below 2 ^ cmp
pub dropped_below : (cmp x : ℕ) → x % 2 ^ cmp < 2 ^ cmp
dropped_below cmp x = mod-lt x (pow_pos cmp)

-- what is left of a number is its high part, moved back to its place
pub chop_high : (cmp x : ℕ) → x / 2 ^ cmp * 2 ^ cmp ≡ chop cmp x
unfolding chop
chop_high cmp x = omega (arith, mod-add-div' x (2 ^ cmp))

-- the high part of the number at a place
pub high_at : (cmp : ℕ) (xs : List ℕ) (i : ℕ) → at (high_parts cmp xs) i ≡ at xs i / 2 ^ cmp
unfolding high_parts
high_at cmp [] i = sym (zero-div (2 ^ cmp))
high_at cmp (x ∷ xs) zero = refl
high_at cmp (x ∷ xs) (suc i) = high_at cmp xs i

-- the bits that are left and those that are dropped are all bits
both_powers : (width cmp : ℕ) → cmp ≤ width → 2 ^ (width - cmp) * 2 ^ cmp ≡ 2 ^ width
both_powers width cmp h = sym (pow-add 2 (width - cmp) cmp) ∙ ap (λ (n : ℕ). 2 ^ n) (sub-add_cancel h)

-- the high parts have the bits that are left
pub high_digit : (width cmp : ℕ) (xs : List ℕ) → cmp ≤ width → Digit width xs → Digit (width - cmp) (high_parts cmp xs)
high_digit width cmp xs h digit k =
    rw (high_at cmp xs k) ((div-lt_iff_lt-mul (pow_pos cmp)).1 (rw (both_powers width cmp h) (digit k)))

-- as many high parts as numbers
high_length : (cmp : ℕ) (xs : List ℕ) → length (high_parts cmp xs) ≡ length xs
unfolding high_parts
high_length cmp xs = rw length-map

-- high parts moved back to their place
high_back : (cmp : ℕ) (xs : List ℕ) → map (λ x. x * 2 ^ cmp) (high_parts cmp xs) ≡ map (chop cmp) xs
unfolding high_parts
high_back cmp [] = refl
high_back cmp (x ∷ xs) = rw (chop_high cmp x, high_back cmp xs)

-- unpacking what was packed gives each number without what was dropped
pub unpack_dropped_pack_dropping : (width cmp bytes : ℕ) (xs : List ℕ) → cmp ≤ width → Digit width xs → (width - cmp) * length xs ≤ 8 * bytes
    → unpack_dropped_of width cmp (length xs) (pack_dropping_of width cmp bytes xs) ≡ map (chop cmp) xs
unfolding pack_dropping_of unpack_dropped_of
unpack_dropped_pack_dropping width cmp bytes xs h digit fits =
    rw (← high_length cmp xs)
    (ap (map (λ x. x * 2 ^ cmp)) (unpack_pack (width - cmp) bytes (high_parts cmp xs) (high_digit width cmp xs h digit) (rw high_length fits))
    ∙ high_back cmp xs)

-- packing that drops nothing
pub pack_dropping_none : (width count : ℕ) (xs : List ℕ) → pack_dropping_of width 0 count xs ≡ pack width count xs
unfolding pack_dropping_of high_parts
pack_dropping_none width count xs = rw (sub-zero, whole xs)
  where
    whole : (xs : List ℕ) → map (λ x. x / 2 ^ 0) xs ≡ xs
    whole [] = refl
    whole (x ∷ xs) = rw (div-one x, whole xs)

-- unpacking where nothing was dropped
pub unpack_dropped_none : (width count : ℕ) (bytes : List ℕ) → unpack_dropped_of width 0 count bytes ≡ unpack width count bytes
unfolding unpack_dropped_of
unpack_dropped_none width count bytes = rw sub-zero (whole (unpack width count bytes))
  where
    whole : (xs : List ℕ) → map (λ x. x * 2 ^ 0) xs ≡ xs
    whole [] = refl
    whole (x ∷ xs) = rw (mul-one x, whole xs)

-- byte j of packed numbers, from the two numbers that it lies in
pub pack_dropping_at : (width cmp count i bit j : ℕ) (xs : List ℕ) → Widths width cmp → Digit width xs → Position (width - cmp) 8 i bit j → j < count
    → at (pack_dropping_of width cmp count xs) j ≡ (at xs i / 2 ^ cmp + 2 ^ (width - cmp) * (at xs (i + 1) / 2 ^ cmp)) / 2 ^ bit % 2 ^ 8
unfolding pack_dropping_of pack digits
pack_dropping_at width cmp count i bit j xs w digit p h =
    tabulate_at count _ j h
    ∙ packed_byte (width - cmp) i bit j (high_parts cmp xs) (high_digit width cmp xs (omega arith) digit) (omega arith) p.low p.place
    ∙ rw (high_at cmp xs i, high_at cmp xs (i + 1))

-- number i of packed bytes, from the four bytes that it lies in
pub unpack_dropped_at : (width cmp count i bit j : ℕ) (bytes : List ℕ) → Widths width cmp → Digit 8 bytes → Position 8 (width - cmp) j bit i → i < count
    → at (unpack_dropped_of width cmp count bytes) i
    ≡ four_bytes bytes j / 2 ^ bit % 2 ^ (width - cmp) * 2 ^ cmp
unfolding unpack_dropped_of unpack digits
unpack_dropped_at width cmp count i bit j bytes w digit p h =
    map_at (λ x. x * 2 ^ cmp) (tabulate count _) i (rw tabulate_length h)
    ∙ ap (λ (x : ℕ). x * 2 ^ cmp) (tabulate_at count _ i h ∙ unpacked_number (width - cmp) i bit j bytes digit (omega arith) p.low p.place)

-- as many bytes as were asked for
pub pack_dropping_length : (width cmp count : ℕ) (xs : List ℕ) → length (pack_dropping_of width cmp count xs) ≡ count
unfolding pack_dropping_of
pack_dropping_length width cmp count xs = pack_length (width - cmp) count _

-- as many numbers as were asked for
pub unpack_dropped_length : (width cmp count : ℕ) (bytes : List ℕ) → length (unpack_dropped_of width cmp count bytes) ≡ count
unfolding unpack_dropped_of
unpack_dropped_length width cmp count bytes = rw length-map (unpack_length (width - cmp) count bytes)

-- a number moved to its place
moved_at : (cmp : ℕ) (xs : List ℕ) (i : ℕ) → at (map (λ x. x * 2 ^ cmp) xs) i ≡ at xs i * 2 ^ cmp
moved_at cmp [] i = sym (zero-mul (2 ^ cmp))
moved_at cmp (x ∷ xs) zero = refl
moved_at cmp (x ∷ xs) (suc i) = moved_at cmp xs i

-- unpacked numbers have width bits
pub unpack_dropped_below : (width cmp count : ℕ) (bytes : List ℕ) → cmp ≤ width → Digit width (unpack_dropped_of width cmp count bytes)
unfolding unpack_dropped_of
unpack_dropped_below width cmp count bytes h k =
    rw (moved_at cmp (unpack (width - cmp) count bytes) k, ← both_powers width cmp h)
    (mul-lt-mul_of_pos_right (unpack_below (width - cmp) count bytes k) (pow_pos cmp))
