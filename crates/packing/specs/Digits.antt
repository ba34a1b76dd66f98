-- Packing of numbers into bytes and back (003, algorithms 17, 18, 20, 21): one list of digits read again in digits of another width.
-- Assumes nothing.
use Rattle.std.specs.Prelude.{◌≡◌, refl, List, [], ◌∷◌, ℕ, ◌+◌, ◌*◌, ◌/◌, ◌%◌, ◌^◌, ◌<◌}
use Rattle.maths.specs.Vector.{at, tabulate}

-- the number that digits of some bits each stand for, the least significant first: the bit stream of algorithm 17
unfoldable pub value : ℕ → List ℕ → ℕ
value bits [] = 0
value bits (x ∷ xs) = x + 2 ^ bits * value bits xs

-- the first count digits of some bits each of a number, the least significant first
unfoldable pub digits : ℕ → ℕ → ℕ → List ℕ
digits bits count number = tabulate count (λ i. number / 2 ^ (bits * i) % 2 ^ bits)

-- numbers of width bits each, packed into count bytes without gaps (PackVec), and back (UnPackVec)
unfoldable pub pack : ℕ → ℕ → List ℕ → List ℕ
pack width count numbers = digits 8 count (value width numbers)

unfoldable pub unpack : ℕ → ℕ → List ℕ → List ℕ
unpack width count bytes = digits width count (value 8 bytes)

-- the four bytes from place j on as one number, 0 past the end
abbrev pub four_bytes : List ℕ → ℕ → ℕ
four_bytes bytes j = at bytes j + 2 ^ 8 * at bytes (j + 1) + 2 ^ 16 * at bytes (j + 2) + 2 ^ 24 * at bytes (j + 3)

-- the eight numbers of kept bits each that begin with byte j, with zeros for cmp low bits more
unfoldable pub group : ℕ → ℕ → ℕ → List ℕ → List ℕ
group kept cmp j bytes = tabulate 8 (λ k. four_bytes bytes (j + k * kept / 8) / 2 ^ (k * kept % 8) % 2 ^ kept * 2 ^ cmp)

-- every number is a digit of some bits
abbrev pub Digit : ℕ → List ℕ → Type 0
Digit bits xs = (k : ℕ) → at xs k < 2 ^ bits

-- 5 + 8 · 6 + 64 · 7
value_example : value 3 (5 ∷ 6 ∷ 7 ∷ []) ≡ 501
unfolding value
value_example = refl

digits_example : digits 8 2 501 ≡ 245 ∷ 1 ∷ []
unfolding digits tabulate
digits_example = refl

-- 5, 6, 7 in three bits each are the bits 101 110 111 from the right: 245 and 1
pack_example : pack 3 2 (5 ∷ 6 ∷ 7 ∷ []) ≡ 245 ∷ 1 ∷ []
unfolding pack digits value tabulate
pack_example = refl

unpack_example : unpack 3 3 (245 ∷ 1 ∷ []) ≡ 5 ∷ 6 ∷ 7 ∷ []
unfolding unpack digits value tabulate
unpack_example = refl

four_bytes_example : four_bytes (245 ∷ 1 ∷ 2 ∷ []) 1 ≡ 513
four_bytes_example = refl
