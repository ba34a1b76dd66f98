-- The tables of a transform with δ rows of 256 numbers (003 section 3.2.2): the powers of its root w for the twist, for the rows and for the columns.
-- Assumes nothing.
use Rattle.std.specs.Prelude.{◌≡◌, List, ℕ, ◌+◌, ◌*◌, ◌%◌, ◌^◌, ◌≤◌, ◌<◌, length}
use Rattle.maths.specs.Vector.{at, AllBelow}
use Rattle.maths.specs.Congruence.{Mod}
use Rattle.maths.specs.Root.{power_table}
use Rattle.calls.specs.Region.{region}
use Rattle.montgomery.specs.Scaled.{unscale, Odd}

-- the places of the tables of a transform with δ rows: 256 for the twist of each row, 264 for the rows, one for each value of a column
abbrev pub tables_length : ℕ → ℕ
tables_length δ = δ * 256 + 264 + δ

-- tables holds, in scaled form, the powers a · b of v for a and b below 16, and then powers 0, 16, .., 112; power 128 of v is −1
pub record RowTables (q v : ℕ) (tables : List ℕ) : Type 0 where
  pub twist : (a b : ℕ) → a < 16 → b < 16 → Mod q (unscale q (at tables (16 * a + b))) (v ^ (a * b))
  pub columns : (i : ℕ) → i < 8 → Mod q (unscale q (at tables (256 + i))) (v ^ (16 * i))
  pub minus : Mod q (v ^ 128 + 1) 0

-- the first δ · 256 numbers are the powers of w, which has that order
pub record Powers (q δ w : ℕ) (tables : List ℕ) : Type 0 where
  pub table : region tables 0 (δ * 256) ≡ power_table q w (δ * 256)
  pub whole : Mod q (w ^ (δ * 256)) 1
  pub half : Mod q (w ^ (δ * 128) + 1) 0

-- what the transforms ask of modulus, sizes and tables, whatever the root
pub record Ready (q δ : ℕ) (tables : List ℕ) : Type 0 where
  pub modulus : Odd q
  pub some_rows : 0 < δ
  pub few_rows : δ ≤ 16
  pub size : length tables ≡ tables_length δ
  pub below : AllBelow q (tables_length δ) tables

-- the tables of the root w: its powers r · c for column c of row r; for the rows, whose root is power δ of w, and for the columns, whose root is power 256,
-- in scaled form
pub record Tables (q δ w : ℕ) (tables : List ℕ) : Type 0 where
  pub twist : (r c : ℕ) → r < δ → c < 256 → at tables (r * 256 + c) ≡ w ^ (r * c) % q
  pub row : RowTables q (w ^ δ) (region tables (δ * 256) 264)
  pub columns : (j : ℕ) → j < δ → Mod q (unscale q (at tables (δ * 256 + 264 + j))) ((w ^ 256) ^ j)
  pub whole : Mod q (w ^ (δ * 256)) 1
