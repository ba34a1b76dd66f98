-- Prime numbers, and trial division as a computed test.
-- Assumes nothing.
use Rattle.std.specs.Prelude.{◌≡◌, refl, ◌≢◌, Bool, true, false, not, ◌&&◌, ◌||◌, ℕ, zero, suc, ◌*◌, ◌%◌, ◌<◌, ltb, eqb}

-- q is above 1, and no number from 2 to q − 1 divides it
pub record Prime (q : ℕ) : Type 0 where
  pub above : 1 < q
  pub no_divisor : (a : ℕ) → 1 < a → a < q → q % a ≢ 0

-- none of a, a + 1, a + 2, .. divides q, up to the first whose square is above q, which must be among the first n + 1 of them
unfoldable pub no_divisor_from : ℕ → ℕ → ℕ → Bool
no_divisor_from zero a q = ltb q (a * a)
no_divisor_from (suc n) a q =
    let later : Bool = no_divisor_from n (suc a) q in
    let rest : Bool = not (eqb (q % a) 0) && later in
    ltb q (a * a) || rest

-- trial division: q is above 1 and no number from 2 to the square root of q divides it
unfoldable pub is_prime : ℕ → Bool
is_prime q = ltb 1 q && no_divisor_from q 2 q

-- a modulus of 003, table 2.1
is_prime_example : is_prime 1198081 ≡ true
unfolding is_prime no_divisor_from
is_prime_example = refl

-- 3 · 399361
is_prime_example₂ : is_prime 1198083 ≡ false
unfolding is_prime no_divisor_from
is_prime_example₂ = refl

-- 4093 · 4093, a square
is_prime_example₃ : is_prime 16752649 ≡ false
unfolding is_prime no_divisor_from
is_prime_example₃ = refl
