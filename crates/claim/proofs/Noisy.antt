-- What is opened from a sealing under a key is the message bit under the noise (01, demand 3, on numbers), for any lists s, e and m, and any a and r of their
-- lengths.
-- Assumes nothing.
use mathlib.Core.Path.{◌≡◌, sym, ◌∙◌}
use mathlib.Core.List.{List}
use Prim.Native.Nat.{ℕ, suc, ◌+◌, ◌-◌, ◌*◌, ◌/◌, ◌%◌, ◌≤◌, ◌<◌}
use native.Mathlib.Nat.{zero-mul, zero-add, mod-lt, mod-add-div'}
use native.Mathlib.Omega.{arith}
use lib.IntN.{ℤ, pos}
use lib.ListN.{length, get_or, length-map}
use Rattle.maths.specs.Vector.{at}
use Rattle.maths.specs.Sum.{sum}
use Rattle.maths.specs.Congruence.{Mod}
use Rattle.maths.specs.Product.{product, correlation}
use Rattle.maths.specs.Integer.{residue}
use Rattle.maths.proofs.Vector.{at_past}
use Rattle.maths.proofs.Sum.{sum_cong, sum_pad}
use Rattle.maths.proofs.Cancelling.{exchanged}
use Rattle.maths.proofs.Congruence.{mod_refl, mod_eq, mod_trans, mod_add, mod_remainder, mod_add_multiple}
use Rattle.sets.specs.declared.Parameters.{Parameters}
use Rattle.sets.specs.Derived.{half_modulus_of, multiplier_count_of}
use Rattle.sets.specs.Rules.{Rules}
use Rattle.calls.specs.Region.{vector}
use Rattle.numbers.specs.Scheme.{residues, key, sum_of_products, first_part_of, sum_of_middles, second_part, opened}
use Rattle.numbers.specs.Noise.{numbers_noise}
use Rattle.numbers.proofs.Laws.{key_vector_lem, key_part_at, first_part_length, first_part_at, middles_products, second_part_at, opened_at}
use Rattle.claim.proofs.NoiseResidue.{vector_most, noise_residue}

-- a place of a product, as a correlation with the second factor read backwards from that place
backward : (m l : ℕ) (a : List ℕ) (f : ℕ → ℕ) → length a ≤ m → m ≤ suc l → sum (suc l) (λ u. at a u * f (l - u)) ≡ correlation m (at a) (λ u. f (l - u)) 0
unfolding correlation
backward m l a f most room = sum_pad m (suc l) _ room (λ u low high. rw (at_past a u (omega arith), zero-mul)) ∙ simp zero-add

-- the same where the second factor is read backwards from a place further on
shifted : (n l x end : ℕ) (a s : List ℕ) → length a ≤ n → n ≤ suc l → l + x ≡ end → product a s l ≡ correlation n (at a) (λ u. at s (end - u)) x
unfolding product correlation
shifted n l x end a s most room ends =
    sum_pad n (suc l) _ room (λ u low high. rw (at_past a u (omega arith), zero-mul))
    ∙ sum_cong n _ _ (λ u inside. let place : l - u ≡ end - (x + u) = omega arith in rw place)

-- x is taken away from a number that is congruent to x + y
cancelled : (q x y c : ℕ) → 0 < q → Mod q c (x + y) → Mod q ((c + (q - x % q)) % q) y
cancelled q x y c some same =
    let whole : x + y + (q - x % q) ≡ y + (x / q + 1) * q = omega (arith, mod-add-div' x q, mod-lt x some) in
    mod_trans (mod_remainder q _) (mod_trans (mod_add same (mod_refl (q - x % q))) (mod_trans (mod_eq whole) (mod_add_multiple q y (x / q + 1))))

module _ (p : Parameters) (kept : Rules p) (a s : List ℕ) (e : List ℤ) (a-length : length a ≡ p.t * p.n) where
  -- place l of b_i is place n − 1 + l of a_i · s, plus the error
  key_place_lem : (i l : ℕ) → i < p.t → l < p.d + p.k
      → Mod p.q (at (vector (p.d + p.k) (key p a s e) i) l)
      (product (vector p.n a i) s (p.n - 1 + l) + residue p.q (get_or (vector (p.d + p.k) e i) l (pos 0)))
  key_place_lem i l h inside = rw (key_vector_lem p a s e i h, key_part_at p a s e a-length i l h inside) (mod_remainder p.q _)

  module _ (r : List ℤ) (m : List ℕ) (r-length : length r ≡ multiplier_count_of p) (j : ℕ) (h : j < p.d) where
    -- vector i of the multipliers' residues
    multiplier : ℕ → List ℕ
    multiplier i = vector (p.k + 1) (residues p.q r) i

    -- b_i, its errors and the secret, read backwards from the place that meets place 0 of the first factor
    key_back : ℕ → ℕ → ℕ
    key_back i l = at (vector (p.d + p.k) (key p a s e) i) (p.k + j - l)

    error_back : ℕ → ℕ → ℕ
    error_back i l = residue p.q (get_or (vector (p.d + p.k) e i) (p.k + j - l) (pos 0))

    secret_back : ℕ → ℕ
    secret_back l = at s (p.n + p.k - 1 + j - l)

    -- a place of b_i is the correlation of a_i with the secret, plus the error
    key_places : (i l : ℕ) → i < p.t → l < p.k + 1
        → Mod p.q (key_back i (0 + l)) (correlation p.n (at (vector p.n a i)) secret_back (0 + l) + error_back i (0 + l))
    unfolding key_back secret_back error_back
    key_places i l inside room =
        let same : product (vector p.n a i) s (p.n - 1 + (p.k + j - (0 + l))) ≡ correlation p.n (at (vector p.n a i)) secret_back (0 + l) =
        shifted p.n (p.n - 1 + (p.k + j - (0 + l))) (0 + l) (p.n + p.k - 1 + j) (vector p.n a i) s (vector_most p.n a i)
        (omega (arith, kept.some_n)) (omega (arith, kept.some_n)) in
        rw (← same) (key_place_lem i (p.k + j - (0 + l)) inside (omega arith))

    -- the secret cancels
    sums : Mod p.q (sum p.t (λ i. correlation (p.k + 1) (at (multiplier i)) (key_back i) 0))
        (correlation (p.n + p.k) (at (first_part_of p a r)) secret_back 0 + sum p.t (λ i. correlation (p.k + 1) (at (multiplier i)) (error_back i) 0))
    unfolding multiplier sum_of_products
    sums =
        exchanged p.q (p.k + 1) p.n (p.n + p.k) p.t multiplier (λ i. vector p.n a i) key_back error_back secret_back (at (first_part_of p a r)) 0
        (λ i l inside past. at_past (multiplier i) l (omega (arith, vector_most (p.k + 1) (residues p.q r) i)))
        (λ i l inside past. at_past (vector p.n a i) l (omega (arith, vector_most p.n a i))) (omega arith) key_places
        (λ l inside. rw (first_part_at p a r l inside) (mod_remainder p.q _))

    -- the places of the middle products of r_i and b_i
    sealed_back : Mod p.q (sum_of_middles p (residues p.q r) (key p a s e) j)
        (sum p.t (λ i. correlation (p.k + 1) (at (multiplier i)) (key_back i) 0))
    unfolding sum_of_products product multiplier key_back
    sealed_back =
        mod_trans (middles_products p (residues p.q r) (key p a s e) j (length-map r (residue p.q) ∙ r-length) h)
        (mod_eq (sum_cong p.t _ _ (λ i inside.
        backward (p.k + 1) (p.k + j) (multiplier i) (at (vector (p.d + p.k) (key p a s e) i)) (vector_most (p.k + 1) (residues p.q r) i)
        (omega arith))))

    -- the errors add up to the noise
    noise_sum : Mod p.q (sum p.t (λ i. correlation (p.k + 1) (at (multiplier i)) (error_back i) 0)) (residue p.q (numbers_noise p e r j))
    unfolding multiplier error_back
    noise_sum =
        mod_trans
        (mod_eq (sum_cong p.t _ _ (λ i inside.
        sym (backward (p.k + 1) (p.k + j) (multiplier i) (λ l. residue p.q (get_or (vector (p.d + p.k) e i) l (pos 0)))
        (vector_most (p.k + 1) (residues p.q r) i) (omega arith)))))
        (noise_residue p e r j (omega (arith, kept.prime.above)))

    -- c1 against the secret
    first_back : correlation (p.n + p.k) (at (first_part_of p a r)) secret_back 0 ≡ product (first_part_of p a r) s (p.n + p.k - 1 + j)
    unfolding product secret_back
    first_back =
        sym (backward (p.n + p.k) (p.n + p.k - 1 + j) (first_part_of p a r) (at s) (omega (arith, first_part_length p a r)) (omega (arith, kept.some_n)))

    -- c2 is c1 against the secret, plus the noise, plus h times the message bit
    second : Mod p.q (at (second_part p (key p a s e) r m) j)
        (product (first_part_of p a r) s (p.n + p.k - 1 + j) + (residue p.q (numbers_noise p e r j) + half_modulus_of p * at m j))
    second =
        rw (second_part_at p (key p a s e) r m j h, ← first_back)
        (mod_trans (mod_remainder p.q _)
        (mod_trans (mod_add (mod_trans sealed_back (mod_trans sums (mod_add (mod_refl _) noise_sum))) (mod_refl (half_modulus_of p * at m j)))
        (mod_eq (omega arith))))

    -- what is opened is the noise plus h times the message bit
    pub opened_noisy : Mod p.q (opened p (first_part_of p a r) (second_part p (key p a s e) r m) s j)
        (residue p.q (numbers_noise p e r j) + half_modulus_of p * at m j)
    opened_noisy =
        rw (opened_at p (first_part_of p a r) (second_part p (key p a s e) r m) s j (first_part_length p a r) h)
        (cancelled p.q _ _ _ (omega (arith, kept.prime.above)) second)
