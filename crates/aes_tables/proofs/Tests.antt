-- A test that is computed for each number below a limit.
-- Assumes nothing.
use mathlib.Core.Path.{◌≡◌, refl, ap, ◌∙◌}
use mathlib.Core.Bool.{Bool, true, false, ◌&&◌}
use Prim.Native.Nat.{ℕ, zero, suc, ◌<◌}
use native.Mathlib.Nat.{not-suc-le-zero}
use native.Mathlib.Omega.{arith}
use lib.Dec.{eqb}
use borrow.Author.Tests.{eqb-true, eqb-false}
use Rattle.maths.proofs.Tests.{both_true}

-- the test holds of n − 1, .., 1, 0
unfoldable pub for_each : ℕ → (ℕ → Bool) → Bool
for_each zero test = true
for_each (suc n) test = test n && for_each n test

last_or_before : (test : ℕ → Bool) (n k : ℕ) → k < suc n → (last : Bool) → eqb k n ≡ last → test n ≡ true → (k < n → test k ≡ true) → test k ≡ true
last_or_before test n k h true s e f = ap test (eqb-true k n s) ∙ e
last_or_before test n k h false s e f = f (omega (arith, eqb-false k n s))

-- so it holds of each
pub for_each_at : (n : ℕ) (test : ℕ → Bool) → for_each n test ≡ true → (k : ℕ) → k < n → test k ≡ true
unfolding for_each
for_each_at zero test e k h = absurd (not-suc-le-zero h)
for_each_at (suc n) test e k h =
    let both = both_true (test n) (for_each n test) e in
    last_or_before test n k h (eqb k n) refl both.0 (for_each_at n test both.1 k)
