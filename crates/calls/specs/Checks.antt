-- The checks that open calls share (01, How each call answers): lengths as a list of tests, and the first number out of range with its place.
-- Assumes nothing.
use Rattle.std.specs.Prelude.{◌≡◌, refl, Bool, true, false, ◌&&◌, List, [], ◌∷◌, ℕ, suc, ◌+◌, leb, ltb, length}
use Rattle.calls.specs.Outcome.{Outcome, accepted, refused, refuse}

-- every test of the list holds
unfoldable pub all_of : List Bool → Bool
all_of [] = true
all_of (t ∷ ts) = t && all_of ts

-- where an entry passes, one more than pass after it; else none
abbrev pub further : Bool → ℕ → ℕ
further true n = suc n
further false n = 0

-- how many leading entries pass the test, which is given an entry's position, counted from start, and the entry
unfoldable pub passing : {A : Type 0} → (ℕ → A → Bool) → ℕ → List A → ℕ
passing test start [] = 0
passing test start (x ∷ xs) = further (test start x) (passing test (suc start) xs)

-- refused with 3 at the first entry that fails the test, its place counted from offset; else what comes after
unfoldable pub refuse_first : {A : Type 0} → (ℕ → A → Bool) → ℕ → ℕ → List A → Outcome → Outcome
refuse_first test start offset xs after = refuse (ltb (passing test start xs) (length xs)) 3 (offset + passing test start xs) after

-- the test of a residue, and of a message number: below the limit, at any position
abbrev pub below : ℕ → ℕ → ℕ → Bool
below limit position x = ltb x limit

all_of_example : all_of (leb 1 4 ∷ leb 5 4 ∷ leb 2 3 ∷ []) ≡ false
unfolding all_of
all_of_example = refl

-- 17 is the first number that is not below 17, at position 2
passing_example : passing (below 17) 0 (3 ∷ 16 ∷ 17 ∷ 4 ∷ 20 ∷ []) ≡ 2
unfolding passing
passing_example = refl

-- a bound that depends on the position: 4 stands at position 3 and is not below 3
passing_example₂ : passing (λ i x. ltb x i) 2 (1 ∷ 4 ∷ 2 ∷ []) ≡ 1
unfolding passing
passing_example₂ = refl

-- the place of the first failing number of a second slice is counted through a first slice of length 2
refuse_first_example : refuse_first (below 17) 0 2 (3 ∷ 17 ∷ []) accepted ≡ refused 3 3
unfolding refuse_first passing
refuse_first_example = refl
