-- The transform of δ rows of ρ numbers by written-out sums, for any δ and ρ: columns, twist and rows (003 section 3.2.2, algorithm 36), and back
-- (algorithm 37); and what the steps bear and give where a number is kept below 2 · q.
-- Assumes nothing.
use Rattle.std.specs.Prelude.{◌≡◌, refl, List, [], ◌∷◌, ℕ, ◌+◌, ◌*◌, ◌/◌, ◌%◌, ◌^◌, ◌≤◌, ◌<◌, length}
use Rattle.maths.specs.Vector as vectors
use Rattle.maths.specs.Vector.{at, tabulate, AllBelow}
use Rattle.maths.specs.Sum as sums
use Rattle.maths.specs.Sum.{sum}
use Rattle.maths.specs.Congruence.{Mod}
use Rattle.montgomery.specs.Scaled.{unscale, Odd}

-- the sum of count numbers, stride places apart from first on, each times a power of the root; the table of powers goes round
unfoldable pub strided_sum_of : List ℕ → ℕ → ℕ → ℕ → List ℕ → ℕ → ℕ
strided_sum_of x first stride count powers step = sum count (λ j. at x (first + stride * j) * at powers (step * j % length powers))

-- the places are there, and the sum fits 64 bits
pub record Summable (x : List ℕ) (first stride count : ℕ) (powers : List ℕ) (step : ℕ) : Type 0 where
  pub places : (j : ℕ) → j < count → first + stride * j < length x
  pub room : length x ≤ 4096
  pub few : count ≤ 4096
  pub short : stride ≤ 4096
  pub some_powers : step < length powers
  pub few_powers : length powers ≤ 4096
  pub numbers : AllBelow (2 ^ 25) (length x) x
  pub factors : AllBelow (2 ^ 24) (length powers) powers

-- the values of the transforms of the columns, as many rows of them as fill `places`; x has m rows of ρ numbers
unfoldable pub columns : ℕ → ℕ → ℕ → ℕ → List ℕ → List ℕ → List ℕ
columns q ρ m places powers x = tabulate places (λ i. strided_sum_of x (i % ρ) ρ m powers (i / ρ * ρ) % q)

-- each number times a power of the root: r · c is the exponent in row r, column c
unfoldable pub twisted : ℕ → ℕ → List ℕ → List ℕ → List ℕ
twisted q ρ powers x = tabulate (length x) (λ i. at x i * at powers (i / ρ * (i % ρ)) % q)

-- the transform of each of δ rows
unfoldable pub rows : ℕ → ℕ → ℕ → List ℕ → List ℕ → List ℕ
rows q ρ δ powers x = tabulate (length x) (λ i. strided_sum_of x (i / ρ * ρ) 1 ρ powers (i % ρ * δ) % q)

-- numbers below 2 · q in rows of ρ, at most as many as there are powers of the root
pub record Plain (q ρ : ℕ) (powers x : List ℕ) : Type 0 where
  pub modulus : Odd q
  pub some_columns : 0 < ρ
  pub columns_fit : ρ ≤ length powers
  pub size : length x ≤ length powers
  pub few : length powers ≤ 3328
  pub numbers : AllBelow (2 * q) (length x) x
  pub factors : AllBelow q (length powers) powers

-- numbers below 2 · q, each congruent to the exact one divided by 2^32
pub record Lazily (q : ℕ) (exact got : List ℕ) : Type 0 where
  pub kept : length got ≡ length exact
  pub below : AllBelow (2 * q) (length got) got
  pub values : (i : ℕ) → i < length exact → Mod q (at got i) (unscale q (at exact i))

-- (1, 2, 3, 4) modulo 17 in rows of two, with the root 4 of order 4: the columns (1, 3) and (2, 4)
columns_example : columns 17 2 2 4 (1 ∷ 4 ∷ 16 ∷ 13 ∷ []) (1 ∷ 2 ∷ 3 ∷ 4 ∷ []) ≡ 4 ∷ 6 ∷ 15 ∷ 15 ∷ []
unfolding columns strided_sum_of sums.sum vectors.tabulate
columns_example = refl

twisted_example : twisted 17 2 (1 ∷ 4 ∷ 16 ∷ 13 ∷ []) (4 ∷ 6 ∷ 15 ∷ 15 ∷ []) ≡ 4 ∷ 6 ∷ 15 ∷ 9 ∷ []
unfolding twisted vectors.tabulate
twisted_example = refl

-- bench figure 6: the values 10, 7, 15, 6 in the order of Perm
rows_example : rows 17 2 2 (1 ∷ 4 ∷ 16 ∷ 13 ∷ []) (4 ∷ 6 ∷ 15 ∷ 9 ∷ []) ≡ 10 ∷ 15 ∷ 7 ∷ 6 ∷ []
unfolding rows strided_sum_of sums.sum vectors.tabulate
rows_example = refl
