-- Laws of whole numbers: their parts and sizes, finite sums, residues modulo q, and the centred residue.
-- Assumes nothing.
use mathlib.Core.Path.{◌≡◌, refl, sym, ap, ◌∙◌}
use Prim.Native.Nat.{ℕ, zero, suc, ◌+◌, ◌-◌, ◌*◌, ◌/◌, ◌%◌, ◌≤◌, ◌<◌}
use native.Mathlib.Nat.{mod-lt, mod-eq_of_lt, mod-add-div, mod-add-mod, add-mod-mod, add-mod, add-mul-mod_self_left}
use native.Mathlib.Decide.{dec_le, dec_lt}
use native.Mathlib.Omega.{arith}
use lib.Arith.{sub-sub_self}
use lib.IntN.{ℤ, pos, negsuc, sub_ℕ, ◌+ℤ◌, ◌*ℤ◌, neg_ℤ, nat_abs}
use borrow.Author.Tests.{lt-ltb, le-ltb, le-leb, lt-leb}
use Rattle.maths.specs.Sum.{sum}
use Rattle.maths.specs.Integer.{residue, sum_ℤ, centre, centre_by}

-- a whole number z is positive_part z − negative_part z, so an equation of whole numbers is one of natural numbers
abbrev pub positive_part : ℤ → ℕ
positive_part (pos n) = n
positive_part (negsuc n) = 0

abbrev pub negative_part : ℤ → ℕ
negative_part (pos n) = 0
negative_part (negsuc n) = suc n

-- two numbers are equal if their parts differ by the same
pub equal_by_parts : (a b : ℤ) → positive_part a + negative_part b ≡ positive_part b + negative_part a → a ≡ b
equal_by_parts (pos m) (pos n) e = ap pos (omega arith)
equal_by_parts (pos m) (negsuc n) e = absurd (omega arith)
equal_by_parts (negsuc m) (pos n) e = absurd (omega arith)
equal_by_parts (negsuc m) (negsuc n) e = ap negsuc (omega arith)

-- the parts of a − b, for natural numbers a and b
subℕ_parts : (a b : ℕ) → positive_part (sub_ℕ a b) + b ≡ a + negative_part (sub_ℕ a b)
subℕ_parts a b = go (dec_lt a b)
  where
    go : Dec (a < b) → positive_part (sub_ℕ a b) + b ≡ a + negative_part (sub_ℕ a b)
    go (yes h) = rw (lt-ltb a b) (omega arith)
    go (no h) = rw (le-ltb a b (omega arith)) (omega arith)

-- the parts of a sum
pub +ℤ-parts : (a b : ℤ) → positive_part (a +ℤ b) + negative_part a + negative_part b ≡ positive_part a + positive_part b + negative_part (a +ℤ b)
+ℤ-parts (pos m) (pos n) = omega arith
+ℤ-parts (pos m) (negsuc n) = omega (arith, subℕ_parts m (suc n))
+ℤ-parts (negsuc m) (pos n) = omega (arith, subℕ_parts n (suc m))
+ℤ-parts (negsuc m) (negsuc n) = omega arith

-- the parts of −a
pub neg_ℤ_parts : (a : ℤ) → (positive_part (neg_ℤ a) ≡ negative_part a) × (negative_part (neg_ℤ a) ≡ positive_part a)
neg_ℤ_parts (pos zero) = (refl, refl)
neg_ℤ_parts (pos (suc n)) = (refl, refl)
neg_ℤ_parts (negsuc n) = (refl, refl)

-- the parts of a product
pub *ℤ-parts : (a b : ℤ)
    → positive_part (a *ℤ b) + positive_part a * negative_part b + negative_part a * positive_part b ≡ positive_part a * positive_part b + negative_part
    a * negative_part b + negative_part (a *ℤ b)
*ℤ-parts (pos m) (pos n) = omega arith
*ℤ-parts (pos m) (negsuc n) = omega (arith, neg_ℤ_parts (pos (m * suc n)))
*ℤ-parts (negsuc m) (pos n) = omega (arith, neg_ℤ_parts (pos (suc m * n)))
*ℤ-parts (negsuc m) (negsuc n) = omega arith

-- an equation times c
pub scaled : {x y : ℕ} (c : ℕ) → x ≡ y → c * x ≡ c * y
scaled c e = ap (λ (x : ℕ). c * x) e

-- the size of a number is the sum of its parts
nat_abs_parts : (a : ℤ) → nat_abs a ≡ positive_part a + negative_part a
nat_abs_parts (pos n) = omega arith
nat_abs_parts (negsuc n) = omega arith

-- −a is as large as a
pub nat_abs_neg_ℤ : (a : ℤ) → nat_abs (neg_ℤ a) ≡ nat_abs a
nat_abs_neg_ℤ a = omega (arith, nat_abs_parts a, nat_abs_parts (neg_ℤ a), neg_ℤ_parts a)

-- the size of a sum is at most the sum of the sizes
pub nat_abs-+ℤ : (a b : ℤ) → nat_abs (a +ℤ b) ≤ nat_abs a + nat_abs b
nat_abs-+ℤ a b = go (a +ℤ b) (+ℤ-parts a b)
  where
    go : (s : ℤ) → positive_part s + negative_part a + negative_part b ≡ positive_part a + positive_part b + negative_part s → nat_abs s ≤ nat_abs a + nat_abs b
    go (pos n) e = omega (arith, nat_abs_parts a, nat_abs_parts b)
    go (negsuc n) e = omega (arith, nat_abs_parts a, nat_abs_parts b)

-- the size of a product is the product of the sizes
pub nat_abs-*ℤ : (a b : ℤ) → nat_abs (a *ℤ b) ≡ nat_abs a * nat_abs b
nat_abs-*ℤ (pos m) (pos n) = refl
nat_abs-*ℤ (pos m) (negsuc n) = nat_abs_neg_ℤ (pos (m * suc n))
nat_abs-*ℤ (negsuc m) (pos n) = nat_abs_neg_ℤ (pos (suc m * n))
nat_abs-*ℤ (negsuc m) (negsuc n) = refl

-- no term
pub sum_ℤ_none : (f : ℕ → ℤ) → sum_ℤ 0 f ≡ pos 0
unfolding sum_ℤ
sum_ℤ_none f = refl

-- the last term split off
pub sum_ℤ_last : (n : ℕ) (f : ℕ → ℤ) → sum_ℤ (suc n) f ≡ sum_ℤ n f +ℤ f n
unfolding sum_ℤ
sum_ℤ_last n f = refl

-- terms that are equal below n give equal sums
pub sum_ℤ_cong : (n : ℕ) (f g : ℕ → ℤ) → ((i : ℕ) → i < n → f i ≡ g i) → sum_ℤ n f ≡ sum_ℤ n g
unfolding sum_ℤ
sum_ℤ_cong zero f g e = refl
sum_ℤ_cong (suc n) f g e = rw (sum_ℤ_cong n f g (λ i h. e i (omega arith)), e n (omega arith))

-- numbers that are equal but for multiples of q leave the same remainder
same_remainder : (q x c y d : ℕ) → x + q * c ≡ y + q * d → x % q ≡ y % q
same_remainder q x c y d e = sym (add-mul-mod_self_left x q c) ∙ ap (λ (n : ℕ). n % q) e ∙ add-mul-mod_self_left y q d

-- a natural number that leaves the residue of z modulo p + 1, as −1 and p do
representative : ℕ → ℤ → ℕ
representative p z = positive_part z + p * negative_part z

-- the residue is the remainder of the representative
residue_representative : (p : ℕ) (z : ℤ) → residue (suc p) z ≡ representative p z % suc p
unfolding residue representative
residue_representative p (pos n) = ap (λ (x : ℕ). x % suc p) (omega arith)
residue_representative p (negsuc n) = same_remainder (suc p) (suc p - suc n % suc p) n (0 + p * suc n) (suc n / suc p)
    (omega (arith, mod-add-div (suc n) (suc p), mod-lt (suc n) {m = suc p} (omega arith)))

-- a residue is below q
pub residue_lt : (q : ℕ) (z : ℤ) → 0 < q → residue q z < q
unfolding residue
residue_lt q (pos n) h = mod-lt n h
residue_lt q (negsuc n) h = mod-lt (q - suc n % q) h

-- the residue of a natural number is its remainder
pub residue_pos : (q n : ℕ) → residue q (pos n) ≡ n % q
unfolding residue
residue_pos q n = refl

-- the remainder of a product, from the remainders of the factors
product_remainder : (q a b : ℕ) → a * b % q ≡ (a % q) * (b % q) % q
product_remainder q a b = same_remainder q (a * b) 0 ((a % q) * (b % q)) (a % q * (b / q) + a / q * b)
    (omega (arith, scaled b (mod-add-div a q), scaled (a % q) (mod-add-div b q)))

-- the residue of a sum
pub residue-+ℤ : (q : ℕ) (a b : ℤ) → 0 < q → residue q (a +ℤ b) ≡ (residue q a + residue q b) % q
unfolding representative
residue-+ℤ zero a b h = absurd (omega arith)
residue-+ℤ (suc p) a b h = simp (residue_representative, ← add-mod)
    (same_remainder (suc p) (representative p (a +ℤ b)) (negative_part a + negative_part b) (representative p a + representative p b) (negative_part (a +ℤ b))
    (omega (arith, +ℤ-parts a b)))

-- the residue of a product
pub residue-*ℤ : (q : ℕ) (a b : ℤ) → 0 < q → residue q (a *ℤ b) ≡ residue q a * residue q b % q
unfolding representative
residue-*ℤ zero a b h = absurd (omega arith)
residue-*ℤ (suc p) a b h = simp (residue_representative, ← product_remainder)
    (same_remainder (suc p) (representative p (a *ℤ b))
    (positive_part a * negative_part b + negative_part a * positive_part b + p * negative_part a * negative_part b)
    (representative p a * representative p b) (negative_part (a *ℤ b) + negative_part a * negative_part b)
    (omega (arith, *ℤ-parts a b)))

-- the residue of −a
pub residue_neg_ℤ : (q : ℕ) (a : ℤ) → 0 < q → residue q (neg_ℤ a) ≡ (q - residue q a) % q
unfolding representative
residue_neg_ℤ zero a h = absurd (omega arith)
residue_neg_ℤ (suc p) a h = simp residue_representative
    (same_remainder (suc p) (representative p (neg_ℤ a)) (suc (representative p a / suc p)) (suc p - representative p a % suc p)
    (positive_part a + negative_part a)
    (omega (arith, mod-add-div (representative p a) (suc p), mod-lt (representative p a) h, neg_ℤ_parts a, scaled p (neg_ℤ_parts a).1)))

-- a residue is its own remainder
pub residue_mod : (q : ℕ) (z : ℤ) → 0 < q → residue q z % q ≡ residue q z
residue_mod q z h = mod-eq_of_lt (residue_lt q z h)

-- the residue of a sum with a natural number
pub residue-+ℤ-pos : (q : ℕ) (z : ℤ) (n : ℕ) → 0 < q → residue q (z +ℤ pos n) ≡ (residue q z + n) % q
residue-+ℤ-pos q z n h = rw (residue-+ℤ q z (pos n), residue_pos, add-mod-mod)

-- the residue of a finite sum
pub residue_sum_ℤ : (q n : ℕ) (f : ℕ → ℤ) → 0 < q → residue q (sum_ℤ n f) ≡ sum n (λ i. residue q (f i)) % q
unfolding sum sum_ℤ
residue_sum_ℤ q zero f h = residue_pos q 0
residue_sum_ℤ q (suc n) f h = rw (residue-+ℤ q (sum_ℤ n f) (f n), residue_sum_ℤ q n f h, mod-add-mod)

-- the centred residue of w up to h is w
pub centre_low : (h w : ℕ) → w ≤ h → centre h w ≡ pos w
unfolding centre centre_by
centre_low h w l = rw (le-leb w h)

-- and above h it is w − (2h + 1)
pub centre_high : (h w : ℕ) → h < w → centre h w ≡ neg_ℤ (pos (2 * h + 1 - w))
unfolding centre centre_by
centre_high h w l = rw (lt-leb w h)

-- the residue of n below q is n
pub residue_low : (q n : ℕ) → n < q → residue q (pos n) ≡ n
residue_low q n l = residue_pos q n ∙ mod-eq_of_lt l

-- and that of −n is q − n
pub residue_high : (q n : ℕ) → 0 < n → n < q → residue q (neg_ℤ (pos n)) ≡ q - n
unfolding residue
residue_high q zero o l = absurd (omega arith)
residue_high q (suc n) o l = rw (mod-eq_of_lt l) (mod-eq_of_lt (omega arith))

-- the centred residue of w has the residue w
pub residue_centre : (h q w : ℕ) → q ≡ 2 * h + 1 → w < q → residue q (centre h w) ≡ w
residue_centre h q w e l = go (dec_le w h)
  where
    go : Dec (w ≤ h) → residue q (centre h w) ≡ w
    go (yes t) = rw (centre_low h w) (residue_low q w l)
    go (no t) = rw (centre_high h w (omega arith), ← e, residue_high q (q - w) (omega arith) (omega arith)) (omega arith)

-- the centred residue is at most h in size
pub nat_abs_centre : (h w : ℕ) → w < 2 * h + 1 → nat_abs (centre h w) ≤ h
nat_abs_centre h w l = go (dec_le w h)
  where
    go : Dec (w ≤ h) → nat_abs (centre h w) ≤ h
    go (yes t) = rw (centre_low h w) t
    go (no t) = rw (centre_high h w (omega arith), nat_abs_neg_ℤ) (omega arith)

-- a number of size at most h is the centred residue of its residue
pub centre_residue : (h q : ℕ) (z : ℤ) → q ≡ 2 * h + 1 → nat_abs z ≤ h → centre h (residue q z) ≡ z
centre_residue h q (pos n) e l = rw (residue_low q n (omega arith)) (centre_low h n l)
centre_residue h q (negsuc n) e l =
    rw (residue_high q (suc n) (omega arith) (omega arith), centre_high h (q - suc n) (omega arith), ← e, sub-sub_self {a = suc n} {m = q} (omega arith))
