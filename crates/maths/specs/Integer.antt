-- Whole numbers with a sign: their residues modulo q, their sums, products of polynomials of them, and the centred residue.
-- Assumes nothing.
use Rattle.std.specs.Prelude.{◌≡◌, refl, Bool, true, false, List, [], ◌∷◌, ℕ, zero, suc, ◌+◌, ◌-◌, ◌*◌, ◌%◌, leb, ℤ, pos, negsuc, ◌+ℤ◌, ◌-ℤ◌, ◌*ℤ◌, neg_ℤ}
use Rattle.std.specs.Prelude.{get_or}

-- the residue of a whole number modulo q, from 0 to q − 1
unfoldable pub residue : ℕ → ℤ → ℕ
residue q (pos n) = n % q
residue q (negsuc n) = (q - suc n % q) % q

residue_example : residue 17 (negsuc 1) ≡ 15
unfolding residue
residue_example = refl

residue_example₂ : residue 17 (negsuc 16) ≡ 0
unfolding residue
residue_example₂ = refl

residue_example₃ : residue 17 (pos 40) ≡ 6
unfolding residue
residue_example₃ = refl

-- f 0 + f 1 + .. + f (n − 1)
unfoldable pub sum_ℤ : ℕ → (ℕ → ℤ) → ℤ
sum_ℤ zero f = pos 0
sum_ℤ (suc n) f = sum_ℤ n f +ℤ f n

-- 2 + 1 + 0 − 1 − 2 − 3
sum_ℤ_example : sum_ℤ 6 (λ i. pos 2 -ℤ pos i) ≡ negsuc 2
unfolding sum_ℤ
sum_ℤ_example = refl

sum_ℤ_example₂ : sum_ℤ 0 (λ i. pos 5) ≡ pos 0
unfolding sum_ℤ
sum_ℤ_example₂ = refl

-- the coefficient at place l of the product of two polynomials of whole numbers
unfoldable pub product_ℤ : List ℤ → List ℤ → ℕ → ℤ
product_ℤ x y l = sum_ℤ (suc l) (λ j. get_or x j (pos 0) *ℤ get_or y (l - j) (pos 0))

-- the correlation of x with y at place j, signs kept: the sum of x_l · y_(j + l) over the n places of x (003 writes Rev(x) ⊙ y for it)
unfoldable pub correlation_ℤ : ℕ → List ℤ → List ℤ → ℕ → ℤ
correlation_ℤ n x y j = sum_ℤ n (λ l. get_or x l (pos 0) *ℤ get_or y (j + l) (pos 0))

-- noise 12 is not noise −5, though both have the same residue modulo 17: it is not reduced before its size is judged
product_ℤ_example : product_ℤ (pos 3 ∷ []) (pos 4 ∷ []) 0 ≡ pos 12
unfolding product_ℤ sum_ℤ
product_ℤ_example = refl

product_ℤ_example₂ : residue 17 (product_ℤ (pos 3 ∷ []) (pos 4 ∷ []) 0) ≡ residue 17 (negsuc 4)
unfolding residue product_ℤ sum_ℤ
product_ℤ_example₂ = refl

-- (1, −2) with (1, 0, −1) at place 1: 1 · 0 + (−2) · (−1)
correlation_ℤ_example : correlation_ℤ 2 (pos 1 ∷ negsuc 1 ∷ []) (pos 1 ∷ pos 0 ∷ negsuc 0 ∷ []) 1 ≡ pos 2
unfolding correlation_ℤ sum_ℤ
correlation_ℤ_example = refl

unfoldable pub centre_by : Bool → ℕ → ℕ → ℤ
centre_by true h w = pos w
centre_by false h w = neg_ℤ (pos (2 * h + 1 - w))

-- the whole number from −h to h that is congruent to the residue w modulo 2 · h + 1 (003 algorithm 12)
unfoldable pub centre : ℕ → ℕ → ℤ
centre h w = centre_by (leb w h) h w

centre_example : centre 8 16 ≡ negsuc 0
unfolding centre centre_by
centre_example = refl

centre_example₂ : centre 8 8 ≡ pos 8
unfolding centre centre_by
centre_example₂ = refl

centre_example₃ : centre 8 9 ≡ negsuc 7
unfolding centre centre_by
centre_example₃ = refl
