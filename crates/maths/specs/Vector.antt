-- Vectors as lists of numbers: the number at a place, numbers below a limit, and a list given by a formula.
-- Assumes nothing.
use Rattle.std.specs.Prelude.{◌≡◌, refl, List, [], ◌∷◌, ◌++◌, ℕ, zero, suc, ◌+◌, ◌*◌, ◌<◌, length, get_or}

-- the number at place i, and 0 past the end: a vector padded with zeros (Zpad, 003 algorithm 14) reads the same
abbrev pub at : List ℕ → ℕ → ℕ
at xs i = get_or xs i 0

-- every number of xs is below a limit
abbrev pub Below : ℕ → List ℕ → Type 0
Below limit xs = (k : ℕ) → k < length xs → at xs k < limit

-- the first n numbers of xs are below q
pub record AllBelow (q n : ℕ) (xs : List ℕ) : Type 0 where
  pub each : (i : ℕ) → i < n → at xs i < q

-- f 0, f 1, .., f (n − 1): the first n places of f (Trunc, 003 algorithm 13)
unfoldable pub tabulate : ℕ → (ℕ → ℕ) → List ℕ
tabulate zero f = []
tabulate (suc n) f = tabulate n f ++ (f n ∷ [])

tabulate_example : tabulate 4 (λ i. 2 * i + 1) ≡ 1 ∷ 3 ∷ 5 ∷ 7 ∷ []
unfolding tabulate
tabulate_example = refl
