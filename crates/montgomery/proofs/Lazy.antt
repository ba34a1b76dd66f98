-- Laws of the smallest reduction step: it gives a number below 2 · q that is congruent to x divided by 2^32, for every odd q, and q or more for some x.
-- Assumes nothing.
use mathlib.Core.Path.{◌≡◌, refl, ap}
use Prim.Native.Nat.{ℕ, ◌+◌, ◌-◌, ◌*◌, ◌/◌, ◌%◌, ◌^◌, ◌<◌}
use native.Mathlib.Nat.{div-add-mod', mod-eq_of_lt}
use native.Mathlib.Omega.{arith}
use Rattle.maths.specs.Congruence.{Mod}
use Rattle.maths.proofs.Congruence.{mod_refl, mod_eq, mod_sym, mod_trans, mod_remainder, mod_add, mod_mul}
use Rattle.montgomery.specs.Scaled.{unscale, negated_inverse_of, lazy, Odd, Modulus}
use Rattle.montgomery.proofs.Newton.{newton}
use Rattle.montgomery.proofs.Scaled.{unscale_cong, unscale_power}
use Rattle.montgomery.proofs.Reduction.{multiplier, quotient_below, quotient_is}

-- five steps of Newton's method give the negated inverse
pub negated_inverse_is : {q : ℕ} → Odd q → Modulus q (negated_inverse_of q)
unfolding negated_inverse_of
negated_inverse_is {q} o =
    let two-bits = newton 2 1073741824 q 1 refl refl (omega (arith, o.odd)) in
    let four_bits = newton 4 268435456 q _ refl refl two-bits in
    let eight-bits = newton 16 16777216 q _ refl refl four_bits in
    let sixteen-bits = newton 256 65536 q _ refl refl eight-bits in
    record { modulus = o; inverse = newton 65536 1 q _ refl refl sixteen-bits }

-- there is one negated inverse modulo N
one_inverse : {N k j : ℕ} (q : ℕ) → Mod N (q * k + 1) 0 → Mod N (q * j + 1) 0 → Mod N k j
one_inverse {N} {k} {j} q h l =
    let both : k + j * (q * k + 1) ≡ j + k * (q * j + 1) = omega arith in
    let left : Mod N (k + j * (q * k + 1)) k = mod_trans (mod_add (mod_refl k) (mod_mul (mod_refl j) h)) (mod_eq (omega arith)) in
    let right : Mod N (j + k * (q * j + 1)) j = mod_trans (mod_add (mod_refl j) (mod_mul (mod_refl k) l)) (mod_eq (omega arith)) in
    mod_trans (mod_sym left) (mod_trans (mod_eq both) right)

-- so that any k that is one makes the same multiple of q
same_multiple : {q k : ℕ} (x : ℕ) → Modulus q k → multiplier (2 ^ 32) k x ≡ multiplier (2 ^ 32) (negated_inverse_of q) x
same_multiple {q} {k} x m =
    let own = negated_inverse_is m.modulus in
    (mod_mul (mod_refl (x % 2 ^ 32)) (one_inverse q (record { same = m.inverse }) (record { same = own.inverse }))).same

-- what the code gives is `lazy`
pub quotient_lazy : {q k : ℕ} (x : ℕ) → Modulus q k → (x + multiplier (2 ^ 32) k x * q) / 2 ^ 32 ≡ lazy q x
unfolding lazy
quotient_lazy {q} {k} x m = ap (λ (t : ℕ). (x + t * q) / 2 ^ 32) (same_multiple x m)

module _ {q : ℕ} (o : Odd q) where
  -- congruent to x divided by 2^32
  pub lazy_congruent : (x : ℕ) → lazy q x % q ≡ unscale q x
  lazy_congruent x = rw (← quotient_lazy x (negated_inverse_is o)) (quotient_is x (negated_inverse_is o))

  -- below 2 · q
  pub lazy_below : (x : ℕ) → x < q * 2 ^ 32 → lazy q x < 2 * q
  lazy_below x h =
      rw (← quotient_lazy x (negated_inverse_is o))
      (quotient_below (2 ^ 32) q (negated_inverse_of q) (negated_inverse_is o).inverse x (omega arith) h)

  -- of a number that leaves q, the most that can be is added, 2^32 − 1 times q
  most : (x : ℕ) → x % 2 ^ 32 ≡ q → multiplier (2 ^ 32) (negated_inverse_of q) x ≡ 2 ^ 32 - 1
  most x e = rw e (omega (arith, (negated_inverse_is o).inverse))

  -- q gives q, not 0
  pub lazy_whole : lazy q q ≡ q
  unfolding lazy
  lazy_whole = rw (most q (mod-eq_of_lt (omega (arith, o.small)))) (omega arith)

  -- the largest number in range that leaves q by 2^32 gives 2 · q − 1: no smaller bound holds
  pub lazy_largest : lazy q ((q - 1) * 2 ^ 32 + q) ≡ 2 * q - 1
  unfolding lazy
  lazy_largest = rw (most ((q - 1) * 2 ^ 32 + q) (omega (arith, o.small))) (omega (arith, o.some))

  -- any number of 64 bits as the second of two steps takes it: the first has replaced its upper bits
  pub upper_kept : (x r : ℕ) → r % q ≡ x / 2 ^ 32 * unscale q (2 ^ 64 % q) % q → unscale q (r + x % 2 ^ 32) ≡ unscale q x
  upper_kept x r h =
      let scaled : unscale q (2 ^ 64 % q) ≡ 2 ^ 32 % q = unscale_power o (2 ^ 32) in
      let upper : Mod q r (x / 2 ^ 32 * 2 ^ 32) =
      mod_trans (record { same = h }) (mod_mul (mod_refl (x / 2 ^ 32)) (mod_trans (mod_eq scaled) (mod_remainder q (2 ^ 32)))) in
      unscale_cong (mod_trans (mod_add upper (mod_refl (x % 2 ^ 32))) (mod_eq (div-add-mod' x (2 ^ 32))))
