-- Remainders by a reciprocal of q (Barrett): how near an estimated quotient is, where a quotient is exact, and what stays the same modulo q.
-- Assumes nothing.
use mathlib.Core.Path.{◌≡◌, sym, ap, ◌∙◌}
use Prim.Native.Nat.{ℕ, ◌+◌, ◌-◌, ◌*◌, ◌/◌, ◌%◌, ◌^◌, ◌≤◌, ◌<◌}
use native.Mathlib.Nat.{add-mul-mod_self_right, mul-le-mul_left, mul-le-mul_right, div-mul-le_self, lt-div-mul-add, div-eq_of_lt-le, lt_of_mul-lt-mul_right}
use native.Mathlib.Nat.{le_of_lt}
use native.Mathlib.Omega.{arith}
use Rattle.maths.specs.Congruence.{Mod}
use Rattle.maths.proofs.Congruence.{mod_eq, mod_refl, mod_trans, mod_add, mod_mul}

-- m is the reciprocal of q, scaled by 2^48 and rounded down
pub record Reciprocal (q m : ℕ) : Type 0 where
  pub most : m * q ≤ 2 ^ 48
  pub least : 2 ^ 48 < (m + 1) * q

-- a division gives it
pub reciprocal : {q : ℕ} → 0 < q → Reciprocal q (2 ^ 48 / q)
reciprocal {q} h = record { most = div-mul-le_self (2 ^ 48) q; least = omega (arith, lt-div-mul-add {a = 2 ^ 48} {b = q} h) }

-- the quotient of x by q, estimated by a reciprocal m of q
abbrev pub estimate : ℕ → ℕ → ℕ
estimate m x = x / 65536 * m / 4294967296

-- the inequalities of upper_least over plain numbers: a is x / 2^16, t the estimate times q, p is a · m · q and r is a · q
scaled : (a p r t q : ℕ) → p + q ≤ t * 4294967296 + q * 4294967296 → a * 281474976710656 ≤ p + r → r + q ≤ q * 4294967296 → 0 < q → a * 65536 < t + 2 * q
scaled a p r t q h k l z = omega arith

module _ {q m x : ℕ} (inverse : Reciprocal q m) (small : x < 2 ^ 48) where
  -- the estimate is no greater than the quotient
  pub estimate_most : estimate m x * q ≤ x
  estimate_most =
      let upper = x / 65536 in
      omega (arith, mul-le-mul_right q (div-mul-le_self (upper * m) 4294967296), mul-le-mul_left upper inverse.most)

  -- the greatest multiple of 2^16 up to x is below 2 more than the estimate, times q
  upper_least : x / 65536 * 65536 < estimate m x * q + 2 * q
  upper_least =
      let upper = x / 65536 in
      let t = estimate m x in
      let by-estimate : (upper * m + 1) * q ≤ (t + 1) * 4294967296 * q = mul-le-mul_right q (omega arith) in
      let by_reciprocal : upper * 281474976710656 ≤ upper * ((m + 1) * q) = mul-le-mul_left upper (omega (arith, inverse.least)) in
      let by_size : (upper + 1) * q ≤ 4294967296 * q = mul-le-mul_right q (omega arith) in
      scaled upper (upper * m * q) (upper * q) (t * q) q (omega arith) (omega arith) (omega arith) (omega (arith, inverse.least))

  -- and at most 2 less
  pub estimate_least : 2 ^ 16 ≤ q → x < (estimate m x + 3) * q
  estimate_least large = omega (arith, upper_least)

module _ (x : ℕ) {q m : ℕ} (inverse : Reciprocal q m) (product_small : x * q < 281474976710656) where
  -- x / q times 2^48 is at most x · (m + 1)
  quotient_most : x / q * 281474976710656 ≤ x * (m + 1)
  quotient_most =
      let k = x / q in
      let by_reciprocal : k * 281474976710656 ≤ k * ((m + 1) * q) = mul-le-mul_left k (omega (arith, inverse.least)) in
      let by-quotient : k * q * (m + 1) ≤ x * (m + 1) = mul-le-mul_right (m + 1) (div-mul-le_self x q) in
      omega arith

  -- and x / q + 1 times 2^48 is above it
  quotient_least : x * (m + 1) < (x / q + 1) * 281474976710656
  quotient_least =
      let k = x / q in
      let by_reciprocal : x * (m * q) ≤ x * 281474976710656 = mul-le-mul_left x inverse.most in
      let by-quotient : x < k * q + q = lt-div-mul-add {a = x} {b = q} (omega (arith, inverse.least)) in
      lt_of_mul-lt-mul_right q (omega arith)

  -- so the reciprocal rounded up gives the exact quotient
  exact_quotient : x * (m + 1) / 281474976710656 ≡ x / q
  exact_quotient = div-eq_of_lt-le 281474976710656 quotient_most quotient_least

-- of an x below 3 · q
pub small_quotient_lem : {q m x : ℕ} → Reciprocal q m → x < 3 * q → q < 2 ^ 23 → x * (m + 1) / 281474976710656 ≡ x / q
small_quotient_lem {q} {x =
    x} inverse near small = exact_quotient x inverse (omega (arith, mul-le-mul_right q (le_of_lt near), mul-le-mul_left q (le_of_lt small)))

-- and of an x below 2^24
pub short_quotient : {q m x : ℕ} → Reciprocal q m → x < 2 ^ 24 → q < 2 ^ 23 → x * (m + 1) / 281474976710656 ≡ x / q
short_quotient {q} {x = x} inverse short small = exact_quotient x inverse (omega (arith, mul-le-mul_right q (le_of_lt short)))

-- a multiple of q subtracted
pub less_multiple : (q x k : ℕ) → k * q ≤ x → (x - k * q) % q ≡ x % q
less_multiple q x k h =
    let whole : x - k * q + k * q ≡ x = omega arith in
    sym (add-mul-mod_self_right (x - k * q) k q) ∙ ap (λ (y : ℕ). y % q) whole

-- the bits above the lower 23 replaced by a number of the same remainder
pub upper_reduced : (q x h : ℕ) → h % q ≡ x / 8388608 % q → (h * 8388608 + x % 8388608) % q ≡ x % q
upper_reduced q x h e =
    let upper : Mod q h (x / 8388608) = record { same = e } in
    let whole : x / 8388608 * 8388608 + x % 8388608 ≡ x = omega arith in
    (mod_trans (mod_add (mod_mul upper (mod_refl 8388608)) (mod_refl (x % 8388608))) (mod_eq whole)).same
