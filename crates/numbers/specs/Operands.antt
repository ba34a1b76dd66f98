-- What the work of a call on numbers is given once the call's checks have passed: residues in the set's lengths.
-- Assumes nothing.
use Rattle.std.specs.Prelude.{◌≡◌, List, ℕ, ◌+◌, ◌*◌, ◌^◌, ◌≤◌, ◌<◌, ℤ, pos, nat_abs, length, get_or}
use Rattle.sets.specs.declared.Parameters.{Parameters}
use Rattle.sets.specs.Derived.{multiplier_count_of, error_count_of}
use Rattle.maths.specs.Vector.{Below}
use Rattle.middle.specs.Operand.{Operand}

-- what reading works on
pub record ReadingOperands (p : Parameters) (c1 c2 s : List ℕ) : Type 0 where
  pub first : Operand c1
  pub secret : Operand s
  pub first_length : length c1 ≡ p.n + p.k
  pub second_length : length c2 ≡ p.d
  pub second_residues : Below p.q c2

-- t vectors of n residues modulo q each, one after the other
pub record Family (q n t : ℕ) (xs : List ℕ) : Type 0 where
  pub size : length xs ≡ t * n
  pub each : Below q xs

-- what key works on
pub record KeyOperands (p : Parameters) (a s : List ℕ) (e : List ℤ) : Type 0 where
  pub public : Family p.q p.n p.t a
  pub secret : Operand s
  pub errors_length : length e ≡ error_count_of p
  pub errors_small : (k : ℕ) → k < length e → nat_abs (get_or e k (pos 0)) ≤ p.eta

-- what sealing works on: multipliers small enough for a word, and message bits
pub record SealingOperands (p : Parameters) (a b : List ℕ) (r : List ℤ) (m : List ℕ) : Type 0 where
  pub public : Family p.q p.n p.t a
  pub key : Family p.q (p.d + p.k) p.t b
  pub multipliers_length : length r ≡ multiplier_count_of p
  pub multipliers_small : (i : ℕ) → i < length r → nat_abs (get_or r i (pos 0)) < 2 ^ 24
  pub message_length : length m ≡ p.d
  pub message_bits : Below 2 m
