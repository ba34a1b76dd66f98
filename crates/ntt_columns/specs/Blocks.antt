-- Columns of a transform, 64 at a time: what the steps on a block of 16 rows of 64 numbers ask and give.
-- Assumes nothing.
use Rattle.std.specs.Prelude.{◌≡◌, List, ℕ, ◌+◌, ◌*◌, ◌^◌, ◌≤◌, ◌<◌, length}
use Rattle.maths.specs.Vector.{at, AllBelow}
use Rattle.maths.specs.Congruence.{Mod}
use Rattle.montgomery.specs.Scaled.{unscale}
use Rattle.ntt_columns.specs.Columns.{column_sum}

-- the products of four numbers of column j of a block, in rows one after the other, with four factors
unfoldable pub four_products_of : List ℕ → ℕ → ℕ → ℕ → ℕ → ℕ → ℕ
four_products_of block j a b c d = at block j * a + at block (j + 64) * b + at block (j + 128) * c + at block (j + 192) * d

-- four factors below a limit
pub record Factors (limit a b c d : ℕ) : Type 0 where
  pub first : a < limit
  pub second : b < limit
  pub third : c < limit
  pub fourth : d < limit

-- four rows of 64 numbers, and column j of them
pub record FourReady (block : List ℕ) (j a b c d : ℕ) : Type 0 where
  pub size : length block ≡ 256
  pub inside : j < 64
  pub numbers : AllBelow (2 ^ 25) 256 block
  pub factors : Factors (2 ^ 24) a b c d

-- 64 sums, four rows of 64 numbers, and four factors in scaled form
pub record AddReady (q a b c d : ℕ) (sums block : List ℕ) : Type 0 where
  pub sums_size : length sums ≡ 64
  pub room : AllBelow (2 ^ 30) 64 sums
  pub size : length block ≡ 256
  pub numbers : AllBelow (2 ^ 25) 256 block
  pub factors : Factors q a b c d

-- each sum has four products more
pub record Added (q a b c d : ℕ) (block old new : List ℕ) : Type 0 where
  pub values : (j : ℕ) → j < 64
      → Mod q (at new j) (at old j + four_products_of block j (unscale q a) (unscale q b) (unscale q c) (unscale q d))
  pub below : (j : ℕ) → j < 64 → at new j < at old j + 2 * q

-- a block of 16 rows of 64 numbers, zeros from row m on, and the factors of the sums of row r
pub record SumsReady (q m r δ : ℕ) (factors block sums : List ℕ) : Type 0 where
  pub few_rows : δ ≤ 16
  pub read : m ≤ δ
  pub row_below : r < δ
  pub sums_size : length sums ≡ 64
  pub size : length block ≡ 1024
  pub factors_size : length factors ≡ δ
  pub factors_below : AllBelow q δ factors
  pub numbers : AllBelow (2 ^ 25) 1024 block
  pub zeros : (i : ℕ) → 64 * m ≤ i → at block i ≡ 0

-- value r of each of the 64 columns of a block
pub record Sums (q m r δ : ℕ) (factors block sums : List ℕ) : Type 0 where
  pub values : (j : ℕ) → j < 64 → Mod q (at sums j) (column_sum q factors δ m (λ n. at block (64 * n + j)) r)
  pub below : AllBelow (8 * q) 64 sums

-- there is room for m rows of a block, and x has them
pub record LoadReady (b m : ℕ) (block x : List ℕ) : Type 0 where
  pub block_below : b < 4
  pub short : m ≤ 16
  pub size : length block ≡ 1024
  pub inside : m * 256 ≤ length x

-- the first m rows of a block are those of the columns from 64 · b on
pub record Loaded (b m : ℕ) (x old new : List ℕ) : Type 0 where
  pub rows : (n j : ℕ) → n < m → j < 64 → at new (64 * n + j) ≡ at x (n * 256 + (64 * b + j))
  pub rest : (i : ℕ) → 64 * m ≤ i → at new i ≡ at old i

-- a block of 16 rows of 64 numbers whose rows from m on are zeros, as they stay while the first m are loaded
pub record ZerosFrom (m : ℕ) (block : List ℕ) : Type 0 where
  pub size : length block ≡ 1024
  pub zeros : (i : ℕ) → 64 * m ≤ i → at block i ≡ 0

-- the columns from 64 · b on, before they are transformed
pub record BlockReady (q m out δ b : ℕ) (factors x : List ℕ) : Type 0 where
  pub few_rows : δ ≤ 16
  pub read : m ≤ δ
  pub written : out ≤ δ
  pub block_below : b < 4
  pub size : length x ≡ δ * 256
  pub factors_size : length factors ≡ δ
  pub factors_below : AllBelow q δ factors
  pub numbers : (n j : ℕ) → n < m → j < 64 → at x (n * 256 + (64 * b + j)) < 2 ^ 25

-- the first out values of those columns; all other places are as in old
pub record Block (q m out δ b : ℕ) (factors old new : List ℕ) : Type 0 where
  pub values : (r j : ℕ) → r < out → j < 64
      → Mod q (at new (r * 256 + (64 * b + j))) (column_sum q factors δ m (λ n. at old (n * 256 + (64 * b + j))) r)
  pub below : (r j : ℕ) → r < out → j < 64 → at new (r * 256 + (64 * b + j)) < 8 * q
  pub others : (i : ℕ) → ((r j : ℕ) → r < out → j < 64 → i ≡ r * 256 + (64 * b + j) → ⊥) → at new i ≡ at old i
