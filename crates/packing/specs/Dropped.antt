-- Packing that drops the low bits of each number, and back (003, algorithms 11, 19 and 22; cmp is 003's name for how many are dropped).
-- Assumes nothing.
use Rattle.std.specs.Prelude.{◌≡◌, refl, List, [], ◌∷◌, map, ℕ, ◌+◌, ◌-◌, ◌*◌, ◌/◌, ◌%◌, ◌^◌, ◌≤◌}
use Rattle.maths.specs.Vector.{tabulate}
use Rattle.packing.specs.Digits.{value, digits, pack, unpack}

-- a number with its low cmp bits cleared (Chop)
unfoldable pub chop : ℕ → ℕ → ℕ
chop cmp x = x - x % 2 ^ cmp

-- each number without its low cmp bits
unfoldable pub high_parts : ℕ → List ℕ → List ℕ
high_parts cmp numbers = map (λ x. x / 2 ^ cmp) numbers

-- numbers of width bits each, packed into count bytes without their low cmp bits (PackVecc), and back with zeros for these (UnPackVecc)
unfoldable pub pack_dropping_of : ℕ → ℕ → ℕ → List ℕ → List ℕ
pack_dropping_of width cmp count numbers = pack (width - cmp) count (high_parts cmp numbers)

unfoldable pub unpack_dropped_of : ℕ → ℕ → ℕ → List ℕ → List ℕ
unpack_dropped_of width cmp count bytes = map (λ x. x * 2 ^ cmp) (unpack (width - cmp) count bytes)

-- widths that the code takes: a number has at most 24 bits, of which at least 8 are kept
pub record Widths (width cmp : ℕ) : Type 0 where
  pub least : cmp + 8 ≤ width
  pub most : width ≤ 24

chop_example : chop 2 27 ≡ 24
unfolding chop
chop_example = refl

high_parts_example : high_parts 2 (22 ∷ 27 ∷ 31 ∷ []) ≡ 5 ∷ 6 ∷ 7 ∷ []
unfolding high_parts
high_parts_example = refl

-- 22, 27, 31 in five bits without the low two are 5, 6, 7 in three bits
pack_dropping_example : pack_dropping_of 5 2 2 (22 ∷ 27 ∷ 31 ∷ []) ≡ 245 ∷ 1 ∷ []
unfolding pack_dropping_of high_parts pack digits value tabulate
pack_dropping_example = refl

unpack_dropped_example : unpack_dropped_of 5 2 3 (245 ∷ 1 ∷ []) ≡ 20 ∷ 24 ∷ 28 ∷ []
unfolding unpack_dropped_of unpack digits value tabulate
unpack_dropped_example = refl
