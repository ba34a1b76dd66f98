-- Laws of decimal digits: by the last digit, and how many there are at most.
-- Assumes nothing.
use mathlib.Core.Path.{◌≡◌, refl}
use mathlib.Core.Bool.{true, false}
use mathlib.Core.List.{[], ◌∷◌, ◌++◌}
use Prim.Native.Nat.{ℕ, zero, suc, ◌+◌, ◌/◌, ◌%◌, ◌^◌, ◌≤◌, ◌<◌}
use native.Mathlib.Nat.{mod-eq_of_lt}
use native.Mathlib.Decide.{dec_lt}
use native.Mathlib.Omega.{arith}
use borrow.Author.Tests.{lt-ltb, le-ltb, ltb-true}
use lib.IntN.{ℤ, pos, negsuc, nat_abs}
use lib.ListN.{length, length-append}
use lib.Signed.{lt_z}
use Rattle.sheet_text.specs.Decimal.{digits, decimal, signed}

-- more steps than the number make no difference
digits_same : (s t n : ℕ) → n < s → n < t → digits s n ≡ digits t n
unfolding digits
digits_same zero t n h k = absurd (omega arith)
digits_same (suc s) zero n h k = absurd (omega arith)
digits_same (suc s) (suc t) n h k =
    elim (dec_lt n 10) [
      | yes small ↦ rw (lt-ltb n 10 small)
      | no large ↦ rw (le-ltb n 10 (omega arith), digits_same s t (n / 10) (omega arith) (omega arith))
    ]

-- a number of one digit
pub decimal_small : (n : ℕ) → n < 10 → decimal n ≡ (48 + n) ∷ []
unfolding decimal digits
decimal_small n h = rw (lt-ltb n 10 h, mod-eq_of_lt h)

-- a number of more digits: those of its tenth, and the last
pub decimal_large : (n : ℕ) → 10 ≤ n → decimal n ≡ decimal (n / 10) ++ ((48 + n % 10) ∷ [])
unfolding decimal digits
decimal_large n h = rw (le-ltb n 10 h, digits_same n (suc (n / 10)) (n / 10) (omega arith) (omega arith))

-- a number below 10^(k + 1) has at most k + 1 digits
pub decimal_length : (k n : ℕ) → n < 10 ^ suc k → length (decimal n) ≤ suc k
decimal_length zero n h = rw (decimal_small n (omega arith)) (omega arith)
decimal_length (suc k) n h =
    elim (dec_lt n 10) [
      | yes small ↦ rw (decimal_small n small) (omega arith)
      | no large ↦
          rw (decimal_large n (omega arith), length-append)
          (omega (arith, decimal_length k (n / 10) (omega arith)))
    ]

-- a negative number is the sign and its size
pub signed_negative : (z : ℤ) → lt_z z (pos 0) ≡ true → signed z ≡ (45 ∷ []) ++ decimal (nat_abs z)
unfolding signed
signed_negative (pos n) t = absurd (omega (arith, ltb-true n 0 t))
signed_negative (negsuc n) t = refl

-- any other is its size
pub signed_natural : (z : ℤ) → lt_z z (pos 0) ≡ false → signed z ≡ decimal (nat_abs z)
unfolding signed
signed_natural (pos n) t = refl
signed_natural (negsuc n) t = let z : ◌≡◌ {A = ℕ} 0 1 = cc in absurd (omega arith)

-- with the sign at most one byte more than the digits of the size
pub signed_length : (k : ℕ) (z : ℤ) → nat_abs z < 10 ^ suc k → length (signed z) ≤ suc (suc k)
unfolding signed
signed_length k (pos n) h = omega (arith, decimal_length k n h)
signed_length k (negsuc n) h = omega (arith, decimal_length k (suc n) h)
