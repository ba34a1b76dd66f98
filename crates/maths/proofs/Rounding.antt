-- Laws of the two roundings: what nearest computes, the thresholds, the one number where the two differ, and the sizes of noise at which a bit is read
-- rightly or wrongly.
-- Assumes nothing.
use mathlib.Core.Path.{◌≡◌, sym, ap, ◌∙◌}
use mathlib.Core.Logic.{◌≢◌, ◌⊎◌, inl, inr}
use Prim.Native.Nat.{ℕ, zero, suc, ◌+◌, ◌-◌, ◌*◌, ◌/◌, ◌%◌, ◌≤◌, ◌<◌}
use native.Mathlib.Nat.{div-eq_of_lt-le, div-add-mod, mod-lt, mod-eq_of_lt, mod-eq-sub-mod, mul-le-mul_left}
use native.Mathlib.Decide.{dec_le, dec_lt}
use native.Mathlib.Omega.{arith}
use lib.IntN.{ℤ, pos, negsuc, ◌+ℤ◌, ◌*ℤ◌, neg_ℤ, nat_abs}
use borrow.Author.Tests.{le-leb, lt-leb}
use Rattle.maths.specs.Integer.{residue}
use Rattle.maths.specs.Rounding.{floor_bit_of, nearest, centred_bit, threshold_bit_of}
use Rattle.maths.specs.BitClaim.{BitClaim}
use Rattle.maths.proofs.Integer.{equal_by_parts, +ℤ-parts, neg_ℤ_parts, *ℤ-parts, scaled, nat_abs_neg_ℤ, residue_lt, residue_low, residue_high}
use Rattle.maths.proofs.Integer.{centre_low, centre_high}

-- nearest h z is floor((2z + h) / 2h): 2z + h is 2h · nearest h z and a remainder from 0 to 2h − 1
pub nearest_floor : (h : ℕ) (z : ℤ) → 0 < h → (t : ℕ) × (t < 2 * h) × (pos 2 *ℤ z +ℤ pos h ≡ pos (2 * h) *ℤ nearest h z +ℤ pos t)
unfolding nearest
nearest_floor h (pos n) l = ((2 * n + h) % (2 * h), mod-lt (2 * n + h) (omega arith), ap pos (sym (div-add-mod (2 * n + h) (2 * h))))
nearest_floor h (negsuc n) l =
    let x : ℕ = 2 * suc n + h - 1 in
    let t : ℕ = 2 * h - suc (x % (2 * h)) in
    let r : ℤ = nearest h (negsuc n) in
    let e : pos 2 *ℤ negsuc n +ℤ pos h ≡ pos (2 * h) *ℤ r +ℤ pos t = equal_by_parts _ _ (omega (
      arith,
      mod-lt x {m = 2 * h} (omega arith),
      div-add-mod x (2 * h),
      neg_ℤ_parts (pos (2 * suc n)),
      scaled h (neg_ℤ_parts (pos (x / (2 * h)))).1,
      scaled h (neg_ℤ_parts (pos (x / (2 * h)))).0,
      +ℤ-parts (pos 2 *ℤ negsuc n) (pos h),
      *ℤ-parts (pos (2 * h)) r,
      +ℤ-parts (pos (2 * h) *ℤ r) (pos t),
    )) in
    (t, omega arith, e)

-- the bit of the thresholds is 0 below h / 2
pub threshold_bit_below : (h w : ℕ) → 2 * w < h → threshold_bit_of h w ≡ 0
unfolding threshold_bit_of
threshold_bit_below h w l = rw (lt-leb h (2 * w))

-- it is 1 from h / 2 to 3h / 2
pub threshold_bit_between : (h w : ℕ) → h ≤ 2 * w → 2 * w ≤ 3 * h → threshold_bit_of h w ≡ 1
unfolding threshold_bit_of
threshold_bit_between h w l u = rw (le-leb h (2 * w), le-leb (2 * w) (3 * h))

-- it is 0 above 3h / 2
pub threshold_bit_above : (h w : ℕ) → 3 * h < 2 * w → threshold_bit_of h w ≡ 0
unfolding threshold_bit_of
threshold_bit_above h w l = rw (le-leb h (2 * w) (omega arith), lt-leb (2 * w) (3 * h))

-- what the bit b of w has to be on each side of the thresholds
abbrev Thresholds : ℕ → ℕ → ℕ → Type 0
Thresholds h w b = (2 * w < h → b ≡ 0) × (h ≤ 2 * w → 2 * w ≤ 3 * h → b ≡ 1) × (3 * h < 2 * w → b ≡ 0)

-- only the bit of the thresholds is so
threshold_bit_only : (h w b : ℕ) → Thresholds h w b → b ≡ threshold_bit_of h w
threshold_bit_only h w b t = go (dec_lt (2 * w) h) (dec_le (2 * w) (3 * h))
  where
    go : Dec (2 * w < h) → Dec (2 * w ≤ 3 * h) → b ≡ threshold_bit_of h w
    go (yes l) d = t.0 l ∙ sym (threshold_bit_below h w l)
    go (no l) (yes u) = t.1 (omega arith) u ∙ sym (threshold_bit_between h w (omega arith) u)
    go (no l) (no u) = t.2 (omega arith) ∙ sym (threshold_bit_above h w (omega arith))

-- a quotient by 2h
quotient : (h x k : ℕ) → k * (2 * h) ≤ x → x < suc k * (2 * h) → x / (2 * h) ≡ k
quotient h x k l u = div-eq_of_lt-le (2 * h) l (omega arith)

-- 01's formula gives 0 from 3h / 2 on
pub floor_bit_above : (h w : ℕ) → 0 < h → w < 2 * h + 1 → 3 * h ≤ 2 * w → floor_bit_of h w ≡ 0
unfolding floor_bit_of
floor_bit_above h w l u t = rw (quotient h (2 * w + h) 2 (omega arith) (omega arith))

-- everywhere but at w = 3h / 2 01's formula gives the bit of the thresholds
pub floor_bit_threshold : (h w : ℕ) → 0 < h → w < 2 * h + 1 → 2 * w ≢ 3 * h → floor_bit_of h w ≡ threshold_bit_of h w
unfolding floor_bit_of
floor_bit_threshold h w l u n = threshold_bit_only h w (floor_bit_of h w) (
  λ t. rw (quotient h (2 * w + h) 0 (omega arith) (omega arith)),
  λ t v. rw (quotient h (2 * w + h) 1 (omega arith) (omega arith)),
  λ t. floor_bit_above h w l u (omega arith),
)

-- at w = 3h / 2 the two differ
pub floor_bit_other : (h w : ℕ) → 0 < h → 2 * w ≡ 3 * h → (floor_bit_of h w ≡ 0) × (threshold_bit_of h w ≡ 1)
floor_bit_other h w l e = (floor_bit_above h w l (omega arith) (omega arith), threshold_bit_between h w (omega arith) (omega arith))

-- the size of the number nearest to −m / h
nearest_size : (h m : ℕ) → 0 < m → nat_abs (nearest h (neg_ℤ (pos m))) ≡ (2 * m + h - 1) / (2 * h)
unfolding nearest
nearest_size h zero l = absurd (omega arith)
nearest_size h (suc n) l = nat_abs_neg_ℤ (pos ((2 * suc n + h - 1) / (2 * h)))

-- 003's rounding for an even h is the bit of the thresholds
pub centred_bit_threshold : (h g w : ℕ) → 0 < h → h ≡ 2 * g → w < 2 * h + 1 → centred_bit h w ≡ threshold_bit_of h w
unfolding centred_bit nearest floor_bit_of
centred_bit_threshold h g w l e u = go (dec_le w h)
  where
    go : Dec (w ≤ h) → centred_bit h w ≡ threshold_bit_of h w
    go (yes t) = rw (centre_low h w) (floor_bit_threshold h w l u (omega arith))
    go (no t) =
        let x : ℕ = 2 * (2 * h + 1 - w) + h - 1 in
        rw (centre_high h w (omega arith), nearest_size h (2 * h + 1 - w) (omega arith)) (threshold_bit_only h w (x / (2 * h) % 2) (
          λ v. absurd (omega arith),
          λ v a. rw (quotient h x 1 (omega arith) (omega arith)),
          λ v. let a : 3 * g < w = omega arith in rw (quotient h x 0 (omega arith) (omega arith)),
        ))

-- the remainder of a number below 2q
small_remainder : (q x : ℕ) → x < 2 * q → (x % q ≡ x) ⊎ (x % q + q ≡ x)
small_remainder q x l = go (dec_lt x q)
  where
    go : Dec (x < q) → (x % q ≡ x) ⊎ (x % q + q ≡ x)
    go (yes t) = inl (mod-eq_of_lt t)
    go (no t) = inr (rw (mod-eq-sub-mod {n = x} {m = q} (omega arith), mod-eq_of_lt {n = x - q} {m = q} (omega arith)) (omega arith))

-- the residue of a number of size below q
small_residue : (q : ℕ) (z : ℤ) → nat_abs z < q → (residue q z ≡ nat_abs z) ⊎ (residue q z + nat_abs z ≡ q)
small_residue q (pos n) l = inl (residue_low q n l)
small_residue q (negsuc n) l = inr (omega (arith, residue_high q (suc n) (omega arith) l))

-- a bit m under a noise of size n gives a w of bit m while 2n < h and of bit 1 − m while h + 2 < 2n < 3h, and not w = 3h / 2
abbrev Reading : ℕ → ℕ → ℕ → ℕ → Type 0
Reading h n w m = (2 * n < h → Thresholds h w m × (2 * w ≢ 3 * h)) × (h + 2 < 2 * n → 2 * n < 3 * h → Thresholds h w (1 - m) × (2 * w ≢ 3 * h))

-- by the bit, by the noise's sign (r is its residue), and by whether the sum passes q
reading : (h q n r w m : ℕ) → q ≡ 2 * h + 1 → m ≤ 1 → w < q → (r ≡ n) ⊎ (r + n ≡ q) → (w ≡ r + h * m) ⊎ (w + q ≡ r + h * m) → Reading h n w m
reading h q n r w zero e l u (inl a) (inl b) = omega arith
reading h q n r w zero e l u (inl a) (inr b) = omega arith
reading h q n r w zero e l u (inr a) (inl b) = omega arith
reading h q n r w zero e l u (inr a) (inr b) = omega arith
reading h q n r w (suc zero) e l u (inl a) (inl b) = omega arith
reading h q n r w (suc zero) e l u (inl a) (inr b) = omega arith
reading h q n r w (suc zero) e l u (inr a) (inl b) = omega arith
reading h q n r w (suc zero) e l u (inr a) (inr b) = omega arith
reading h q n r w (suc (suc m)) e l u a b = absurd (omega arith)

-- w is the residue of N + h · m modulo q = 2h + 1: the bit m under the noise N. N is exact: its own size counts, not that of its residue
module _ (h q m w : ℕ) (N : ℤ) (odd : q ≡ 2 * h + 1) (bit : m ≤ 1) (noisy : w ≡ (residue q N + h * m) % q) where
  -- w is a residue
  below : w < 2 * h + 1
  below = rw (← odd, noisy) (mod-lt _ (omega arith))

  -- what is read from w, by the size of the noise
  noisy_reading : nat_abs N < q → Reading h (nat_abs N) w m
  noisy_reading l = reading h q (nat_abs N) (residue q N) w m odd bit (rw odd below) (small_residue q N l)
      (rw noisy (small_remainder q (residue q N + h * m) (omega (arith, residue_lt q N (omega arith), mul-le-mul_left h bit))))

  -- the bit of the thresholds is m while 2|N| < h
  threshold_bit_reads : 2 * nat_abs N < h → threshold_bit_of h w ≡ m
  threshold_bit_reads l = sym (threshold_bit_only h w m ((noisy_reading (omega arith)).0 l).0)

  -- and the other bit while h + 2 < 2|N| < 3h
  threshold_bit_misreads : h + 2 < 2 * nat_abs N → 2 * nat_abs N < 3 * h → threshold_bit_of h w ≡ 1 - m
  threshold_bit_misreads l u = sym (threshold_bit_only h w (1 - m) ((noisy_reading (omega arith)).1 l u).0)

  -- 01's formula reads the bit by its noise
  pub floor_bit_claim : BitClaim h N m (floor_bit_of h w)
  floor_bit_claim =
      record {
        reads = λ l. floor_bit_threshold h w (omega arith) below ((noisy_reading (omega arith)).0 l).1 ∙ threshold_bit_reads l;
        misreads = λ l u. floor_bit_threshold h w (omega arith) below ((noisy_reading (omega arith)).1 l u).1 ∙ threshold_bit_misreads l u;
      }

  -- and so does 003's rounding, for an even h
  pub centred_bit_claim : (g : ℕ) → h ≡ 2 * g → BitClaim h N m (centred_bit h w)
  centred_bit_claim g even =
      record {
        reads = λ l. centred_bit_threshold h g w (omega arith) even below ∙ threshold_bit_reads l;
        misreads = λ l u. centred_bit_threshold h g w (omega arith) even below ∙ threshold_bit_misreads l u;
      }
