-- What the products ask of a vector and of the tables of a transform.
-- Assumes nothing.
use Rattle.std.specs.Prelude.{◌≡◌, List, ℕ, ◌+◌, ◌*◌, ◌≤◌, ◌<◌, length}
use Rattle.maths.specs.Vector.{at, AllBelow}
use Rattle.sets.specs.declared.Parameters.{Parameters}
use Rattle.sets.specs.Derived.{transform_size_of, transform_root}
use Rattle.ntt_products.specs.declared.WhichRoot.{WhichRoot}
use Rattle.ntt_products.specs.declared.WhichRoot.TheVariants.{Own, Inverse}
use Rattle.ntt.specs.Rows.{first_row_at}
use Rattle.ntt_by_row.specs.Lent.{Lent, TablesFor}
use Rattle.ntt_products.specs.Stored.{row_count, root_inverse_of, row_scale, sent, unscaled, recovered_inverse}

-- xs has the places of transform number i, and its first n numbers are residues
pub record Placed (p : Parameters) (i n : ℕ) (xs : List ℕ) : Type 0 where
  pub size : length xs ≡ transform_size_of p i
  pub inside : n ≤ transform_size_of p i
  pub residues : AllBelow p.q n xs

-- x has all places of transform number i, and its numbers are the scaled forms of xs as it is sent
pub record SentScaled (p : Parameters) (i : ℕ) (xs x : List ℕ) : Type 0 where
  pub placed : Placed p i (transform_size_of p i) x
  pub unscaled_is : unscaled p.q x ≡ sent p i xs

-- the places of the tables of transform number i
abbrev pub table_length_of : Parameters → ℕ → ℕ
table_length_of p i = transform_size_of p i + 264 + row_count p i

-- tables may be those of transform number i, whatever the root
abbrev pub SetLent : Parameters → ℕ → List ℕ → Type 0
SetLent p i tables = Lent p.q p.row (row_count p i) tables

-- tables are those of transform number i for the root w
abbrev pub SetTables : Parameters → ℕ → ℕ → List ℕ → Type 0
SetTables p i w tables = TablesFor p.q p.row (row_count p i) w tables

-- the tables of root number i, and those of its inverse
pub record RootTables (p : Parameters) (i : ℕ) (tables : List ℕ) : Type 0 where
  pub lent : SetLent p i tables
  pub root : SetTables p i (transform_root p i) tables

pub record InverseTables (p : Parameters) (i : ℕ) (tables : List ℕ) : Type 0 where
  pub lent : SetLent p i tables
  pub root : SetTables p i (root_inverse_of p i) tables

-- root number i or its inverse, and the tables of either
abbrev pub root_of : WhichRoot → Parameters → ℕ → ℕ
root_of Own p i = transform_root p i
root_of Inverse p i = root_inverse_of p i

abbrev pub TablesOf : WhichRoot → Parameters → ℕ → List ℕ → Type 0
TablesOf Own p i tables = RootTables p i tables
TablesOf Inverse p i tables = InverseTables p i tables

-- new has the rows of an inverse transform of old, which is stored with the inverse of root number i: the sums of its columns recover the first row
pub record RowsRecovered (p : Parameters) (i : ℕ) (old new : List ℕ) : Type 0 where
  pub size : length new ≡ transform_size_of p i
  pub below : AllBelow (2 * p.q) (transform_size_of p i) new
  pub first : (m j : ℕ) → j < m → m ≤ p.row → first_row_at p.q (row_scale p i) (row_count p i) new j ≡ at (recovered_inverse p i m old) j
