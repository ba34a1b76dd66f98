-- Newton's method for the negated inverse of q: where n divides q · b + 1, n · n divides q · b' + 1 for b' = b · (q · b + 2), since q · b' + 1 is the
-- square of q · b + 1.
-- Assumes nothing.
use mathlib.Core.Path.{◌≡◌, sym, ap, ◌∙◌}
use Prim.Native.Nat.{ℕ, ◌+◌, ◌*◌, ◌%◌, ◌^◌, ◌∣◌}
use native.Mathlib.Nat.{dvd-mul_right, mod-mod_of_dvd, mul-dvd-mul, mod-eq-zero_of_dvd, dvd_of_mod-eq-zero}
use native.Mathlib.Omega.{arith}
use Rattle.maths.specs.Congruence.{Mod}
use Rattle.maths.proofs.Congruence.{mod_refl, mod_trans, mod_remainder, mod_add, mod_mul}
use Rattle.montgomery.specs.Scaled.{newton_step_of}

-- congruent modulo N, so modulo each divisor d of N
coarser : {N a b : ℕ} (d m : ℕ) → N ≡ d * m → Mod N a b → Mod d a b
coarser {N} {a} {b} d m e h =
    let divides : d ∣ N = rw e (dvd-mul_right d m) in
    record { same = sym (mod-mod_of_dvd d a divides) ∙ ap (λ (x : ℕ). x % d) h.same ∙ mod-mod_of_dvd d b divides }

-- one step, whose products are cut to N, where N is a multiple of n · n
cut_step : (N n m q b : ℕ) → N ≡ n * n * m → (q * b + 1) % n ≡ 0 → (q * (b * ((q * b % N + 2) % N) % N) + 1) % (n * n) ≡ 0
cut_step N n m q b e h =
    let sum : Mod N ((q * b % N + 2) % N) (q * b + 2) = mod_trans (mod_remainder N (q * b % N + 2)) (mod_add (mod_remainder N (q * b)) (mod_refl 2)) in
    let next : Mod N (b * ((q * b % N + 2) % N) % N) (b * (q * b + 2)) = mod_trans (mod_remainder N (b * ((q * b % N + 2) % N))) (mod_mul (mod_refl b) sum) in
    let square : q * (b * (q * b + 2)) + 1 ≡ (q * b + 1) * (q * b + 1) = omega arith in
    let divides : n ∣ q * b + 1 = dvd_of_mod-eq-zero n h in
    (coarser (n * n) m e (mod_add (mod_mul (mod_refl q) next) (mod_refl 1))).same
    ∙ rw square (mod-eq-zero_of_dvd (n * n) (mul-dvd-mul n n divides divides))

-- one step of the code
pub newton : {r : ℕ} (n m q b : ℕ) → 2 ^ 32 ≡ n * n * m → r ≡ newton_step_of q b → (q * b + 1) % n ≡ 0 → (q * r + 1) % (n * n) ≡ 0
unfolding newton_step_of
newton n m q b e s h = rw s (cut_step (2 ^ 32) n m q b e h)
