-- A number as text: the bytes of its decimal digits, the most significant first, with a minus sign before a negative one (01, The bench sheet).
-- Assumes nothing.
use Rattle.std.specs.Prelude.{◌≡◌, refl, cond, List, [], ◌∷◌, ◌++◌, ℕ, zero, suc, ◌+◌, ◌/◌, ◌%◌, ltb, ℤ, pos, negsuc}

-- the digits of n, at most as many as steps: those of n / 10 where n has more than one, then the last one
unfoldable pub digits : ℕ → ℕ → List ℕ
digits zero n = []
digits (suc steps) n = cond (ltb n 10) [] (digits steps (n / 10)) ++ ((48 + n % 10) ∷ [])

-- all digits of n: a number has no more digits than n + 1
unfoldable pub decimal : ℕ → List ℕ
decimal n = digits (suc n) n

-- a number with its sign: 45 is '-'
unfoldable pub signed : ℤ → List ℕ
signed (pos n) = decimal n
signed (negsuc n) = 45 ∷ decimal (suc n)

-- 0
decimal_example : decimal 0 ≡ 48 ∷ []
unfolding decimal digits
decimal_example = refl

-- 7
decimal_example₂ : decimal 7 ≡ 55 ∷ []
unfolding decimal digits
decimal_example₂ = refl

-- 10
decimal_example₃ : decimal 10 ≡ 49 ∷ 48 ∷ []
unfolding decimal digits
decimal_example₃ = refl

-- 1205
decimal_example₄ : decimal 1205 ≡ 49 ∷ 50 ∷ 48 ∷ 53 ∷ []
unfolding decimal digits
decimal_example₄ = refl

-- -30
signed_example : signed (negsuc 29) ≡ 45 ∷ 51 ∷ 48 ∷ []
unfolding signed decimal digits
signed_example = refl
