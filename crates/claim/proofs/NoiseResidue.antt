-- The residue of the noise is the sum of the products of residues (01, Noise).
-- Assumes nothing.
use mathlib.Core.Path.{◌≡◌, refl, ap}
use mathlib.Core.List.{List, [], ◌∷◌, map}
use Prim.Native.Nat.{ℕ, zero, suc, ◌+◌, ◌-◌, ◌*◌, ◌≤◌, ◌<◌}
use native.Mathlib.Omega.{arith}
use lib.IntN.{ℤ, pos, ◌*ℤ◌}
use lib.ListN.{length, get_or, take, drop, length-take}
use Rattle.maths.specs.Vector.{at}
use Rattle.maths.specs.Sum.{sum}
use Rattle.maths.specs.Congruence.{Mod}
use Rattle.maths.specs.Integer.{residue, product_ℤ}
use Rattle.maths.proofs.Sum.{sum_cong}
use Rattle.maths.proofs.Congruence.{mod_eq, mod_sym, mod_trans, mod_sum, mod_remainder}
use Rattle.maths.proofs.Integer.{residue-*ℤ, residue_sum_ℤ}
use Rattle.calls.specs.Region.{region}
use Rattle.sets.specs.declared.Parameters.{Parameters}
use Rattle.calls.specs.Region.{vector}
use Rattle.numbers.specs.Scheme.{residues}
use Rattle.numbers.specs.Noise.{numbers_noise}
use Rattle.numbers.proofs.Laws.{residues_at}

module _ {A B : Type 0} (f : A → B) where
  -- the first entries of a mapped list
  take_map : (n : ℕ) (xs : List A) → take n (map f xs) ≡ map f (take n xs)
  take_map zero xs = refl
  take_map (suc n) [] = refl
  take_map (suc n) (x ∷ xs) = ap (λ (ys : List B). f x ∷ ys) (take_map n xs)

  -- and the entries after them
  drop_map : (n : ℕ) (xs : List A) → drop n (map f xs) ≡ map f (drop n xs)
  drop_map zero xs = refl
  drop_map (suc n) [] = refl
  drop_map (suc n) (x ∷ xs) = drop_map n xs

-- a vector of the residues is the residues of the vector
vector_residues : (q m : ℕ) (r : List ℤ) (i : ℕ) → vector m (residues q r) i ≡ residues q (vector m r i)
unfolding region
vector_residues q m r i = rw (drop_map (residue q) (m * i) r, take_map (residue q) m (drop (m * i) r))

-- a vector of m numbers has no more
pub vector_most : {A : Type 0} (m : ℕ) (xs : List A) (i : ℕ) → length (vector m xs i) ≤ m
unfolding region
vector_most m xs i = simp length-take (omega arith)

-- the residue of a place of a product of whole numbers
product_residue : (q : ℕ) (x y : List ℤ) (l : ℕ) → 0 < q → Mod q (sum (suc l) (λ v. residue q (get_or x v (pos 0)) * residue q (get_or y (l - v) (pos 0))))
    (residue q (product_ℤ x y l))
unfolding product_ℤ
product_residue q x y l some =
    rw (residue_sum_ℤ q (suc l) (λ v. get_or x v (pos 0) *ℤ get_or y (l - v) (pos 0)) some)
    (mod_trans
    (mod_sum (suc l) _ (λ v. residue q (get_or x v (pos 0) *ℤ get_or y (l - v) (pos 0)))
    (λ v h. rw (residue-*ℤ q (get_or x v (pos 0)) (get_or y (l - v) (pos 0)) some) (mod_sym (mod_remainder q _))))
    (mod_sym (mod_remainder q _)))

-- the residue of the noise
pub noise_residue : (p : Parameters) (e r : List ℤ) (j : ℕ) → 0 < p.q
    → Mod p.q (sum p.t (λ i. sum (suc (p.k + j)) (λ l. at (vector (p.k + 1) (residues p.q r) i) l * residue p.q
    (get_or (vector (p.d + p.k) e i) (p.k + j - l) (pos 0))))) (residue p.q (numbers_noise p e r j))
unfolding numbers_noise
noise_residue p e r j some =
    rw (residue_sum_ℤ p.q p.t (λ i. product_ℤ (vector (p.k + 1) r i) (vector (p.d + p.k) e i) (p.k + j)) some)
    (mod_trans
    (mod_sum p.t _ (λ i. residue p.q (product_ℤ (vector (p.k + 1) r i) (vector (p.d + p.k) e i) (p.k + j))) (λ i h.
    mod_trans
    (mod_eq (sum_cong (suc (p.k + j)) _ (λ l. residue p.q (get_or (vector (p.k + 1) r i) l (pos 0)) * residue p.q
    (get_or (vector (p.d + p.k) e i) (p.k + j - l) (pos 0))) (λ l inside. rw (vector_residues p.q (p.k + 1) r i, residues_at))))
    (product_residue p.q (vector (p.k + 1) r i) (vector (p.d + p.k) e i) (p.k + j) some)))
    (mod_sym (mod_remainder p.q _)))
