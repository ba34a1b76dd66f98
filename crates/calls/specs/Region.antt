-- A region of a list: its entries from a place on, and a list with other entries in a region.
-- By these the contracts speak of the parts of one lent slice, as of the work slice (01, How each call answers).
-- Assumes nothing.
use Rattle.std.specs.Prelude.{◌≡◌, refl, List, [], ◌∷◌, ◌++◌, ℕ, zero, suc, ◌+◌, ◌*◌, length, take, drop}

-- the n entries of xs from place start on
unfoldable pub region : {A : Type 0} → List A → ℕ → ℕ → List A
region xs start n = take n (drop start xs)

-- xs with ys in place from start on
unfoldable pub over : {A : Type 0} → List A → ℕ → List A → List A
over xs start ys = take start xs ++ ys ++ drop (start + length ys) xs

-- vector i of a family of vectors of n entries each, which stand one after the other in one list
abbrev pub vector : {A : Type 0} → ℕ → List A → ℕ → List A
vector n xs i = region xs (n * i) n

-- the vectors f 0, f 1, .., f (t − 1), one after the other
unfoldable pub joined : {A : Type 0} → ℕ → (ℕ → List A) → List A
joined zero f = []
joined (suc t) f = joined t f ++ f t

region_example : ◌≡◌ {A = List ℕ} (region (1 ∷ 2 ∷ 3 ∷ 4 ∷ []) 1 2) (2 ∷ 3 ∷ [])
unfolding region
region_example = refl

over_example : ◌≡◌ {A = List ℕ} (over (1 ∷ 2 ∷ 3 ∷ 4 ∷ []) 1 (8 ∷ 9 ∷ [])) (1 ∷ 8 ∷ 9 ∷ 4 ∷ [])
unfolding over
over_example = refl

vector_example : ◌≡◌ {A = List ℕ} (vector 2 (1 ∷ 2 ∷ 3 ∷ 4 ∷ []) 1) (3 ∷ 4 ∷ [])
unfolding region
vector_example = refl

joined_example : ◌≡◌ {A = List ℕ} (joined 2 (λ i. i ∷ 7 ∷ [])) (0 ∷ 7 ∷ 1 ∷ 7 ∷ [])
unfolding joined
joined_example = refl
