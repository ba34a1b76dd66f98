-- The two roundings that read a bit from a residue w modulo q = 2 · h + 1 (01, Reading; 003 algorithm 12, Round).
-- Assumes nothing.
use Rattle.std.specs.Prelude.{◌≡◌, refl, cond, ◌&&◌, ℕ, suc, ◌+◌, ◌-◌, ◌*◌, ◌/◌, ◌%◌, leb, ℤ, pos, negsuc, neg_ℤ, nat_abs}
use Rattle.maths.specs.Integer.{centre, centre_by}

-- 01's formula: floor((2w + h) / 2h) modulo 2
unfoldable pub floor_bit_of : ℕ → ℕ → ℕ
floor_bit_of h w = (2 * w + h) / (2 * h) % 2

-- bench figure 5: w is 6, 16 and the bits are 1, 0
floor_bit_example : floor_bit_of 8 6 ≡ 1
unfolding floor_bit_of
floor_bit_example = refl

floor_bit_example₂ : floor_bit_of 8 16 ≡ 0
unfolding floor_bit_of
floor_bit_example₂ = refl

-- the whole number nearest to z / h, halves upward: floor((2z + h) / 2h), where for z = −m that is −((2m + h − 1) div 2h)
unfoldable pub nearest : ℕ → ℤ → ℤ
nearest h (pos n) = pos ((2 * n + h) / (2 * h))
nearest h (negsuc n) = neg_ℤ (pos ((2 * suc n + h - 1) / (2 * h)))

-- 20 / 8 is 2.5, rounded to 3
nearest_example : nearest 8 (pos 20) ≡ pos 3
unfolding nearest
nearest_example = refl

-- −20 / 8 is −2.5, rounded to −2
nearest_example₂ : nearest 8 (negsuc 19) ≡ negsuc 1
unfolding nearest
nearest_example₂ = refl

-- 003's Round with p = 2, on the residue moved to −h .. h, taken modulo 2
unfoldable pub centred_bit : ℕ → ℕ → ℕ
centred_bit h w = nat_abs (nearest h (centre h w)) % 2

-- the two differ at w = 3h / 2: 003 reads 1, 01's formula 0
centred_bit_example : centred_bit 8 12 ≡ 1
unfolding centred_bit nearest centre centre_by
centred_bit_example = refl

floor_bit_example₃ : floor_bit_of 8 12 ≡ 0
unfolding floor_bit_of
floor_bit_example₃ = refl

centred_bit_example₂ : centred_bit 8 13 ≡ 0
unfolding centred_bit nearest centre centre_by
centred_bit_example₂ = refl

-- 1 where h / 2 ≤ w ≤ 3h / 2, else 0: for an even h this is 003's rounding
unfoldable pub threshold_bit_of : ℕ → ℕ → ℕ
threshold_bit_of h w = cond (leb h (2 * w) && leb (2 * w) (3 * h)) 1 0

threshold_bit_example : threshold_bit_of 8 3 ≡ 0
unfolding threshold_bit_of
threshold_bit_example = refl

threshold_bit_example₂ : threshold_bit_of 8 4 ≡ 1
unfolding threshold_bit_of
threshold_bit_example₂ = refl

threshold_bit_example₃ : threshold_bit_of 8 12 ≡ 1
unfolding threshold_bit_of
threshold_bit_example₃ = refl

threshold_bit_example₄ : threshold_bit_of 8 13 ≡ 0
unfolding threshold_bit_of
threshold_bit_example₄ = refl
