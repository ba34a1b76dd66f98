-- Numbers as bytes, the least significant first (FIPS 202 appendix B.1; 003 algorithm 8; 01, Draws).
-- Assumes nothing.
use Rattle.std.specs.Prelude.{◌≡◌, refl, List, [], ◌∷◌, ℕ, zero, suc, ◌+◌, ◌*◌, ◌/◌, ◌%◌}

-- the number that bytes stand for
unfoldable pub little_endian : List ℕ → ℕ
little_endian [] = 0
little_endian (b ∷ bytes) = b + 256 * little_endian bytes

-- the n lowest bytes of a number
unfoldable pub bytes_of : ℕ → ℕ → List ℕ
bytes_of zero v = []
bytes_of (suc n) v = (v % 256) ∷ bytes_of n (v / 256)

little_endian_example : little_endian (1 ∷ 2 ∷ 3 ∷ []) ≡ 197121
unfolding little_endian
little_endian_example = refl

bytes_of_example : bytes_of 4 197121 ≡ 1 ∷ 2 ∷ 3 ∷ 0 ∷ []
unfolding bytes_of
bytes_of_example = refl
