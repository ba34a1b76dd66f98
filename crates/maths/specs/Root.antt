-- Roots of unity modulo q.
-- Assumes nothing.
use Rattle.std.specs.Prelude.{◌≡◌, refl, Bool, true, false, not, ◌&&◌, List, [], ◌∷◌, ℕ, zero, suc, ◌-◌, ◌*◌, ◌/◌, ◌%◌, ◌^◌, ◌<◌, eqb, length}
use Rattle.maths.specs.Vector.{tabulate}
use Rattle.maths.specs.Prime.{Prime}
use Rattle.maths.specs.Congruence.{Mod}

-- w is a root of unity of order D modulo the prime q; v is its inverse, and e the inverse of D
pub record Root (q D w v e : ℕ) : Type 0 where
  pub prime : Prime q
  pub some : 0 < D
  pub power : Mod q (w ^ D) 1
  pub order : (t : ℕ) → 0 < t → t < D → Mod q (w ^ t) 1 → ⊥
  pub root_inverse : Mod q (w * v) 1
  pub size_inverse : Mod q (e * D) 1

-- the powers of w modulo q, place by place: 1, w, w², .. (01: a table of powers of w serves each size)
unfoldable pub power_table : ℕ → ℕ → ℕ → List ℕ
power_table q w D = tabulate D (λ i. w ^ i % q)

-- the inverse of a root of order D, and of the size D, modulo q
unfoldable pub inverse_root : ℕ → ℕ → ℕ → ℕ
inverse_root q D w = w ^ (D - 1) % q

unfoldable pub inverse_size : ℕ → ℕ → ℕ
inverse_size q D = q - (q - 1) / D

-- w is a root of order D modulo q, with these inverses
abbrev pub RootOfOrder : ℕ → ℕ → ℕ → Type 0
RootOfOrder q D w = Root q D w (inverse_root q D w) (inverse_size q D)

-- each entry is the one before it, at first x, times w modulo q
unfoldable pub continues : ℕ → ℕ → ℕ → List ℕ → Bool
continues q w x [] = true
continues q w x (y ∷ ys) = eqb y (x * w % q) && continues q w y ys

-- the recurrence of a whole table of powers: it has D entries, begins with 1 and continues by w
unfoldable pub is_power_table : ℕ → ℕ → ℕ → List ℕ → Bool
is_power_table q w D [] = false
is_power_table q w D (y ∷ ys) = eqb y 1 && (eqb (suc (length ys)) D && continues q w y ys)

-- of the n powers of w from x on, none is 1, and the one after them is 1
unfoldable pub first_one_of : ℕ → ℕ → ℕ → ℕ → Bool
first_one_of q w x zero = eqb x 1
first_one_of q w x (suc n) = not (eqb x 1) && first_one_of q w (x * w % q) n

-- the order of a root: of its first powers, w itself first, the one numbered D is the first that is 1
unfoldable pub has_order : ℕ → ℕ → ℕ → Bool
has_order q w zero = false
has_order q w (suc n) = first_one_of q w (w % q) n

power_table_example : power_table 17 4 4 ≡ 1 ∷ 4 ∷ 16 ∷ 13 ∷ []
unfolding power_table tabulate
power_table_example = refl

is_power_table_example : is_power_table 17 4 4 (1 ∷ 4 ∷ 16 ∷ 13 ∷ []) ≡ true
unfolding is_power_table continues
is_power_table_example = refl

has_order_example : (has_order 17 4 4 ≡ true) × (has_order 17 16 4 ≡ false)
unfolding has_order first_one_of
has_order_example = (refl, refl)

inverse_example : inverse_root 17 4 4 ≡ 13
unfolding inverse_root
inverse_example = refl

inverse_size_example : inverse_size 17 4 ≡ 13
unfolding inverse_size
inverse_size_example = refl
