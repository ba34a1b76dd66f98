-- The columns of a transform with rows of 256 numbers: δ sums of m products for each of the 256 columns (003 section 3.2.2; algorithm 36, the transforms
-- of length δ).
-- Assumes nothing.
use Rattle.std.specs.Prelude.{◌≡◌, List, ℕ, ◌+◌, ◌*◌, ◌%◌, ◌^◌, ◌≤◌, ◌<◌, length}
use Rattle.maths.specs.Vector.{at, AllBelow}
use Rattle.maths.specs.Sum.{sum}
use Rattle.maths.specs.Congruence.{Mod}
use Rattle.montgomery.specs.Scaled.{unscale}

-- value r of a column: factors has the δ powers of the root of a column, one after the other, in scaled form
unfoldable pub column_sum : ℕ → List ℕ → ℕ → ℕ → (ℕ → ℕ) → ℕ → ℕ
column_sum q factors δ m column r = sum m (λ n. column n * unscale q (at factors (r * n % δ)))

-- δ rows of 256 numbers, of which the first m are read and the first out are written, and the δ factors
pub record ColumnsReady (q m out δ : ℕ) (factors x : List ℕ) : Type 0 where
  pub some_rows : 0 < δ
  pub few_rows : δ ≤ 16
  pub read : m ≤ δ
  pub written : out ≤ δ
  pub size : length x ≡ δ * 256
  pub factors_size : length factors ≡ δ
  pub factors_below : AllBelow q δ factors
  pub numbers : AllBelow (2 ^ 25) (m * 256) x

-- the first out values of each column of the first m rows of old; the rows after them are as in old
pub record Columns (q m out δ : ℕ) (factors old new : List ℕ) : Type 0 where
  pub values : (r c : ℕ) → r < out → c < 256 → Mod q (at new (r * 256 + c)) (column_sum q factors δ m (λ n. at old (n * 256 + c)) r)
  pub below : AllBelow (8 * q) (out * 256) new
  pub others : (i : ℕ) → out * 256 ≤ i → at new i ≡ at old i
