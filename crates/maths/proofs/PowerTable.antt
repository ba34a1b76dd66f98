-- Tables of powers of a root: a table that passes the test of recurrence holds the powers; a root that passes the test of order has that order.
-- Assumes nothing.
use mathlib.Core.Path.{◌≡◌, refl, sym, ap, ◌∙◌}
use mathlib.Core.Logic.{◌≢◌}
use mathlib.Core.Bool.{true, not, ◌&&◌}
use mathlib.Core.List.{List, [], ◌∷◌}
use Prim.Native.Nat.{ℕ, zero, suc, ◌+◌, ◌-◌, ◌*◌, ◌/◌, ◌%◌, ◌^◌, ◌≤◌, ◌<◌}
use native.Mathlib.Nat.{pow-zero, pow-suc, pow-succ', one-mul, mul-one, mod-eq_of_lt, mod-lt, le_of_suc-le-suc, le-mul_of_pos_right, sub-add_cancel}
use native.Mathlib.Omega.{arith}
use borrow.Author.Tests.{eqb-true, eqb-false, not-true}
use lib.Dec.{eqb}
use lib.ListN.{length, get_or}
use Rattle.maths.specs.Vector.{at}
use Rattle.maths.specs.Congruence.{Mod}
use Rattle.maths.specs.Prime.{Prime}
use Rattle.maths.specs.Root.{RootOfOrder, power_table, inverse_root, inverse_size, continues, is_power_table, first_one_of, has_order}
use Rattle.maths.proofs.Tests.{both_true}
use Rattle.maths.proofs.Vector.{tabulate_length, tabulate_at, tabulate_unique}
use Rattle.maths.proofs.Congruence.{mod_eq, mod_trans, mod_mul, mod_refl, mod_remainder, mod_add_multiple}

-- the length of a table of powers
pub power_table_length : (q w D : ℕ) → length (power_table q w D) ≡ D
unfolding power_table
power_table_length q w D = tabulate_length D _

-- the power at a place
pub power_table_at : (q w D i : ℕ) → i < D → at (power_table q w D) i ≡ w ^ i % q
unfolding power_table
power_table_at q w D i h = tabulate_at D _ i h

-- one more factor w: what continues from x · w modulo q is what comes one place later from x
shift : (q w x y k : ℕ) → y ≡ x * w % q → y * w ^ k % q ≡ x * w ^ suc k % q
shift q w x y k e =
    let factor : x * w * w ^ k ≡ x * w ^ suc k = rw pow-suc (omega arith) in
    let product : Mod q (y * w ^ k) (x * w * w ^ k) = mod_mul (mod_trans (mod_eq e) (mod_remainder q (x * w))) (mod_refl (w ^ k)) in
    rw factor at product.same

module _ (q w : ℕ) where
  -- an entry of a table that continues from x, by its place
  continues_at : (x : ℕ) (ys : List ℕ) → continues q w x ys ≡ true → (k : ℕ) → k < length ys → get_or ys k 0 ≡ x * w ^ suc k % q
  unfolding continues
  continues_at x [] e k h = absurd (omega arith)
  continues_at x (y ∷ ys) e zero h =
      let s = both_true (eqb y (x * w % q)) (continues q w y ys) e in
      eqb-true y (x * w % q) s.0 ∙ rw (pow-suc, pow-zero, one-mul)
  continues_at x (y ∷ ys) e (suc k) h =
      let s = both_true (eqb y (x * w % q)) (continues q w y ys) e in
      continues_at y ys s.1 k (le_of_suc-le-suc h) ∙ shift q w x y (suc k) (eqb-true y (x * w % q) s.0)

-- what the test of a table tells: it begins with 1, has D entries and continues from 1
record Passed (q w D : ℕ) (ys : List ℕ) : Type 0 where
  size : suc (length ys) ≡ D
  rest : continues q w 1 ys ≡ true

passed : (q w D y : ℕ) (ys : List ℕ) → is_power_table q w D (y ∷ ys) ≡ true → (y ≡ 1) × Passed q w D ys
unfolding is_power_table
passed q w D y ys e =
    let s = both_true (eqb y 1) (eqb (suc (length ys)) D && continues q w y ys) e in
    let t = both_true (eqb (suc (length ys)) D) (continues q w y ys) s.1 in
    let first : y ≡ 1 = eqb-true y 1 s.0 in
    (first, record { size = eqb-true (suc (length ys)) D t.0; rest = rw first at t.1 })

-- a table that passes the test holds the powers of w
pub power_table_lem : (q w D : ℕ) (xs : List ℕ) → 1 < q → is_power_table q w D xs ≡ true → xs ≡ power_table q w D
unfolding is_power_table power_table
power_table_lem q w D [] h e = let z : ◌≡◌ {A = ℕ} 0 1 = cc in absurd (omega arith)
power_table_lem q w D (y ∷ ys) h e = tabulate_unique D (λ i. w ^ i % q) (y ∷ ys) (passed q w D y ys e).1.size entry
  where
    entry : (i : ℕ) → i < D → get_or (y ∷ ys) i 0 ≡ w ^ i % q
    entry zero low = rw ((passed q w D y ys e).0, pow-zero) (sym (mod-eq_of_lt h))
    entry (suc k) low =
        let p = (passed q w D y ys e).1 in
        continues_at q w 1 ys p.rest k (omega (arith, p.size)) ∙ rw one-mul

-- the inverse of the size, where the size D divides q − 1
size_inverse : (q D : ℕ) → 0 < D → 0 < q → (q - 1) / D * D ≡ q - 1 → Mod q ((q - (q - 1) / D) * D) 1
size_inverse q (suc l) some above divides =
    let low : (q - 1) / suc l ≤ (q - 1) / suc l * suc l = le-mul_of_pos_right ((q - 1) / suc l) some in
    let whole : q - (q - 1) / suc l + (q - 1) / suc l ≡ q = sub-add_cancel (omega arith) in
    let product : (q - (q - 1) / suc l) * suc l ≡ 1 + l * q = omega (arith, ap (λ (y : ℕ). y * suc l) whole) in
    rw product (mod_add_multiple q 1 l)
size_inverse q zero some above divides = absurd (omega arith)

-- the inverse of a root of order D
root_inverse : (q w D : ℕ) → 0 < D → Mod q (w ^ D) 1 → Mod q (w * (w ^ (D - 1) % q)) 1
root_inverse q w D some power =
    let product : w * w ^ (D - 1) ≡ w ^ D = sym (pow-succ' w (D - 1)) ∙ ap (λ (n : ℕ). w ^ n) (omega arith) in
    mod_trans (mod_mul (mod_refl w) (mod_remainder q (w ^ (D - 1)))) (rw product power)

module _ (q w : ℕ) where
  -- where n powers from x on are not 1, none of their places is that of a 1
  first_none : (x n : ℕ) → first_one_of q w x n ≡ true → x < q → (k : ℕ) → k < n → x * w ^ k % q ≢ 1
  unfolding first_one_of
  first_none x zero e low k h = absurd (omega arith)
  first_none x (suc n) e low zero h =
      let s = both_true (not (eqb x 1)) (first_one_of q w (x * w % q) n) e in
      let same : x * w ^ 0 % q ≡ x = rw (pow-zero, mul-one) (mod-eq_of_lt low) in
      λ one. eqb-false x 1 (not-true (eqb x 1) s.0) (sym same ∙ one)
  first_none x (suc n) e low (suc k) h =
      let s = both_true (not (eqb x 1)) (first_one_of q w (x * w % q) n) e in
      λ one. first_none (x * w % q) n s.1 (mod-lt (x * w) (omega arith)) k (le_of_suc-le-suc h) (shift q w x (x * w % q) k refl ∙ one)

  -- and the power after them is 1
  first_one : (x n : ℕ) → first_one_of q w x n ≡ true → x < q → x * w ^ n % q ≡ 1
  unfolding first_one_of
  first_one x zero e low = rw (pow-zero, mul-one) (mod-eq_of_lt low) ∙ eqb-true x 1 e
  first_one x (suc n) e low =
      let s = both_true (not (eqb x 1)) (first_one_of q w (x * w % q) n) e in
      sym (shift q w x (x * w % q) n refl) ∙ first_one (x * w % q) n s.1 (mod-lt (x * w) (omega arith))

-- a root that passes the test has the order D
pub root_of_order : (q w D : ℕ) → Prime q → (q - 1) / D * D ≡ q - 1 → has_order q w D ≡ true → RootOfOrder q D w
unfolding has_order inverse_root inverse_size
root_of_order q w zero prime divides e = let z : ◌≡◌ {A = ℕ} 0 1 = cc in absurd (omega arith)
root_of_order q w (suc n) prime divides e =
    let above = prime.above in
    let one : 1 % q ≡ 1 = mod-eq_of_lt above in
    let low : w % q < q = mod-lt w (omega arith) in
    let last : w ^ suc n % q ≡ 1 = sym (from_first n) ∙ first_one q w (w % q) n e low in
    let power : Mod q (w ^ suc n) 1 = record { same = last ∙ sym one } in
    record {
      prime = prime;
      some = omega arith;
      power = power;
      order = λ t some high h. differs t some high (h.same ∙ one);
      root_inverse = root_inverse q w (suc n) (omega arith) power;
      size_inverse = size_inverse q (suc n) (omega arith) (omega arith) divides;
    }
  where
    from_first : (k : ℕ) → w % q * w ^ k % q ≡ w ^ suc k % q
    from_first k = shift q w 1 (w % q) k (ap (λ (x : ℕ). x % q) (sym (one-mul w))) ∙ ap (λ (x : ℕ). x % q) (one-mul (w ^ suc k))

    differs : (t : ℕ) → 0 < t → t < suc n → w ^ t % q ≡ 1 → ⊥
    differs zero some high h = absurd (omega arith)
    differs (suc k) some high h = first_none q w (w % q) n e (mod-lt w (omega (arith, prime.above))) k (omega arith) (from_first k ∙ h)
