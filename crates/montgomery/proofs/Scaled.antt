-- Laws of numbers in Montgomery's form: (q + 1) / 2 is the inverse of 2 modulo an odd q, so that what `unscale` gives is x divided by 2^32.
-- Assumes nothing.
use mathlib.Core.Path.{◌≡◌, refl, sym, ◌∙◌}
use Prim.Native.Nat.{ℕ, ◌+◌, ◌*◌, ◌/◌, ◌%◌, ◌^◌, ◌<◌}
use native.Mathlib.Nat.{mod-lt, mod-mod, add-mul, mul_assoc, mul-one}
use native.Mathlib.Omega.{arith}
use Rattle.maths.specs.Congruence.{Mod}
use Rattle.maths.proofs.Congruence.{mod_refl, mod_eq, mod_sym, mod_trans, mod_remainder, mod_add, mod_mul, mod_pow, mod_add_multiple}
use Rattle.maths.proofs.Power.{mul_pow, one_pow}
use Rattle.montgomery.specs.Scaled.{scale, unscale, Odd}

-- a power of 2 times the same power of (q + 1) / 2
power_half : (q n : ℕ) → q % 2 ≡ 1 → Mod q (2 ^ n * ((q + 1) / 2) ^ n) 1
power_half q n odd =
    let twice : 2 * ((q + 1) / 2) ≡ 1 + 1 * q = omega arith in
    let one : Mod q (2 * ((q + 1) / 2)) 1 = mod_trans (mod_eq twice) (mod_add_multiple q 1 1) in
    rw (← mul_pow 2 ((q + 1) / 2) n) (mod_trans (mod_pow n one) (mod_eq (one_pow n)))

-- the inverse of 2^32
unfoldable pub back : ℕ → ℕ
back q = ((q + 1) / 2) ^ 32

-- it is one
pub back_inverse : (q : ℕ) → q % 2 ≡ 1 → Mod q (2 ^ 32 * back q) 1
unfolding back
back_inverse q odd = power_half q 32 odd

-- unscaling is a product with it
pub unscale_back : (q x : ℕ) → Mod q (unscale q x) (x * back q)
unfolding unscale back
unscale_back q x = mod_remainder q (x * ((q + 1) / 2) ^ 32)

-- what is unscaled is a residue
pub unscale_below : {q : ℕ} (x : ℕ) → 0 < q → unscale q x < q
unfolding unscale
unscale_below {q} x h = mod-lt (x * ((q + 1) / 2) ^ 32) h

-- a residue is its own remainder
pub unscale_remainder : (q x : ℕ) → unscale q x % q ≡ unscale q x
unfolding unscale
unscale_remainder q x = mod-mod (x * ((q + 1) / 2) ^ 32) q

-- congruent numbers are unscaled to the same
pub unscale_cong : {q a b : ℕ} → Mod q a b → unscale q a ≡ unscale q b
unfolding unscale
unscale_cong {q} h = (mod_mul h (mod_refl (((q + 1) / 2) ^ 32))).same

-- what is congruent to a number unscaled has it for its remainder
pub unscale_is : {q r : ℕ} (x : ℕ) → Mod q r (unscale q x) → r % q ≡ unscale q x
unscale_is {q} {r} x h = h.same ∙ unscale_remainder q x

-- sums
pub unscale_add : (q a b : ℕ) → Mod q (unscale q (a + b)) (unscale q a + unscale q b)
unscale_add q a b =
    mod_trans (unscale_back q (a + b))
    (mod_trans (mod_eq (add-mul a b (back q))) (mod_sym (mod_add (unscale_back q a) (unscale_back q b))))

-- products, of which one factor is in scaled form
pub unscale_mul_left : (q a w : ℕ) → Mod q (unscale q (a * w)) (a * unscale q w)
unscale_mul_left q a w =
    mod_trans (unscale_back q (a * w)) (mod_trans (mod_eq (mul_assoc a w (back q))) (mod_sym (mod_mul (mod_refl a) (unscale_back q w))))

-- 2^32 and its inverse take each other away
cancelled : {q : ℕ} → Odd q → (x : ℕ) → Mod q (x * 2 ^ 32 * back q) x
cancelled {q} o x =
    let one : x * 1 ≡ x = omega arith in
    mod_trans (mod_eq (mul_assoc x (2 ^ 32) (back q))) (mod_trans (mod_mul (mod_refl x) (back_inverse q o.odd)) (mod_eq one))

module _ {q : ℕ} (o : Odd q) where
  -- what times 2^32 is x is x unscaled
  pub unscale_unique : {r x : ℕ} → Mod q (r * 2 ^ 32) x → Mod q r (unscale q x)
  unscale_unique {r} {x} h =
      mod_trans (mod_sym (cancelled o r))
      (mod_trans (mod_mul h (mod_refl (back q))) (mod_sym (unscale_back q x)))

  -- a scaled number unscaled, the power of 2 written out
  pub unscale_power : (x : ℕ) → unscale q (x * 2 ^ 32 % q) ≡ x % q
  unscale_power x = sym (unscale_is (x * 2 ^ 32 % q) (unscale_unique {r = x} (mod_sym (mod_remainder q (x * 2 ^ 32)))))

  -- a scaled number unscaled
  pub unscale_scale : (x : ℕ) → unscale q (scale q x) ≡ x % q
  unfolding scale
  unscale_scale x = unscale_power x

-- the product of a number and one in scaled form, as a remainder
pub unscale_product : (q a w : ℕ) → unscale q (a * w) ≡ a * unscale q w % q
unscale_product q a w = sym (unscale_remainder q (a * w)) ∙ (unscale_mul_left q a w).same

-- a factor f that makes up for one division by 2^32 too few: each of t and f is divided once, and f has the factor 2^64
pub unscale_twice : {q : ℕ} → Odd q → (t f e : ℕ) → Mod q f (e * 2 ^ 64) → Mod q (unscale q t * unscale q f) (t * e)
unscale_twice {q} o t f e h =
    let u = back q in
    let split : e * 2 ^ 64 ≡ e * 2 ^ 32 * 2 ^ 32 = omega arith in
    let once : Mod q (unscale q f) (e * 2 ^ 32) =
    mod_trans (unscale_back q f) (mod_trans (mod_mul (mod_trans h (mod_eq split)) (mod_refl u)) (cancelled o (e * 2 ^ 32))) in
    let turned : t * u * unscale q f ≡ t * (unscale q f * u) = omega arith in
    mod_trans (mod_mul (unscale_back q t) (mod_refl (unscale q f)))
    (mod_trans (mod_eq turned) (mod_mul (mod_refl t) (mod_trans (mod_mul once (mod_refl u)) (cancelled o e))))

-- the same for a product with 2^64 itself
pub unscale_twice_one : {q : ℕ} → Odd q → (t : ℕ) → Mod q (unscale q t * unscale q (2 ^ 64 % q)) t
unscale_twice_one {q} o t =
    let one : 2 ^ 64 ≡ 1 * 2 ^ 64 = refl in
    mod_trans (unscale_twice o t (2 ^ 64 % q) 1 (mod_trans (mod_remainder q (2 ^ 64)) (mod_eq one))) (mod_eq (mul-one t))

-- 2^128 is 2^32 four times
fourfold : (e a : ℕ) → e * (a * a * a * a) ≡ e * a * a * a * a
fourfold e a = omega arith

pub four_scales : (e : ℕ) → e * 2 ^ 128 ≡ e * 2 ^ 32 * 2 ^ 32 * 2 ^ 32 * 2 ^ 32
four_scales e = fourfold e (2 ^ 32)

-- one division takes away one factor 2^32
divided : {q x y : ℕ} → Odd q → Mod q x (y * 2 ^ 32) → Mod q (x * back q) y
divided {q} {y = y} o h = mod_trans (mod_mul h (mod_refl (back q))) (cancelled o y)

-- all four divisions beside the factor
regrouped : (t f u : ℕ) → t * (u * u * u) * (f * u) ≡ t * (f * u * u * u * u)
regrouped t f u = omega arith

-- a factor f that makes up for three divisions by 2^32 of t and for its own: it has the factor 2^128
pub unscale_fourfold : {q : ℕ} → Odd q → (t f e : ℕ) → Mod q f (e * 2 ^ 128) → Mod q (t * (back q * back q * back q) * unscale q f) (t * e)
unscale_fourfold {q} o t f e h =
    let u = back q in
    let four : Mod q (f * u * u * u * u) e = divided o (divided o (divided o (divided o (mod_trans h (mod_eq (four_scales e)))))) in
    mod_trans (mod_mul (mod_refl (t * (u * u * u))) (unscale_back q f)) (mod_trans (mod_eq (regrouped t f u)) (mod_mul (mod_refl t) four))
