-- The rows of a transform, one after the other (003 section 3.2.2).
-- Assumes nothing.
use Rattle.std.specs.Prelude.{◌≡◌, refl, List, [], ◌∷◌, ℕ, ◌+◌, ◌*◌, ◌%◌, ◌<◌, length}
use Rattle.maths.specs.Vector.{at, AllBelow}
use Rattle.maths.specs.Sum as sums
use Rattle.maths.specs.Sum.{sum}
use Rattle.calls.specs.Region.{region, over}
use Rattle.montgomery.specs.Scaled as scaled
use Rattle.montgomery.specs.Scaled.{unscale}
use Rattle.ntt_tables.specs.Tables.{Ready}
use Rattle.ntt_rows.specs.Rows.{ForwardReady, ForwardRow, InverseReady, InverseRow}
use Rattle.ntt.specs.declared.Direction.{Direction}
use Rattle.ntt.specs.declared.Direction.TheVariants.{Forward, Inverse}

-- δ rows of 256 numbers and the tables of a transform
pub record RowsReady (q δ : ℕ) (tables x : List ℕ) : Type 0 where
  pub ready : Ready q δ tables
  pub size : length x ≡ δ * 256

-- new is old with another row r, of which P holds together with the one that stood there
pub record RowReplaced (P : List ℕ → List ℕ → Type 0) (r : ℕ) (old new : List ℕ) : Type 0 where
  pub row : List ℕ
  pub size : length row ≡ 256
  pub placed : new ≡ over old (r * 256) row
  pub holds : P (region old (r * 256) 256) row

-- what becomes of row r of a forward transform, and of an inverse one
abbrev pub ForwardAt : ℕ → ℕ → ℕ → List ℕ → ℕ → List ℕ → List ℕ → Type 0
ForwardAt q by δ tables r old new = ForwardRow q by (region tables (r * 256) 256) (region tables (δ * 256) 264) old new

abbrev pub InverseAt : ℕ → ℕ → List ℕ → ℕ → List ℕ → List ℕ → Type 0
InverseAt q δ tables r old new = InverseRow q (region tables (r * 256) 256) (region tables (δ * 256) 264) old new

-- all rows of a forward transform
pub record ForwardRows (q by δ : ℕ) (tables old new : List ℕ) : Type 0 where
  pub size : length new ≡ length old
  pub rows : (r : ℕ) → r < δ → ForwardAt q by δ tables r (region old (r * 256) 256) (region new (r * 256) 256)

-- all rows of an inverse transform
pub record InverseRows (q δ : ℕ) (tables old new : List ℕ) : Type 0 where
  pub size : length new ≡ length old
  pub rows : (r : ℕ) → r < δ → InverseAt q δ tables r (region old (r * 256) 256) (region new (r * 256) 256)

-- what a row of a transform asks, and what becomes of it
abbrev pub RowGiven : ℕ → Direction → List ℕ → List ℕ → List ℕ → Type 0
RowGiven q (Forward by) twist powers x = ForwardReady q by twist powers x
RowGiven q Inverse twist powers x = InverseReady q twist powers x

abbrev pub RowTurned : ℕ → Direction → List ℕ → List ℕ → List ℕ → List ℕ → Type 0
RowTurned q (Forward by) twist powers old new = ForwardRow q by twist powers old new
RowTurned q Inverse twist powers old new = InverseRow q twist powers old new

-- what becomes of row r
abbrev pub RowAt : ℕ → Direction → ℕ → List ℕ → ℕ → List ℕ → List ℕ → Type 0
RowAt q direction δ tables r old new = RowTurned q direction (region tables (r * 256) 256) (region tables (δ * 256) 264) old new

-- what all rows ask, beside the tables, and what becomes of them
abbrev pub RowsGiven : ℕ → ℕ → Direction → List ℕ → Type 0
RowsGiven q δ (Forward by) x = by < q
RowsGiven q δ Inverse x = AllBelow (2 * q) (δ * 256) x

abbrev pub RowsTurned : ℕ → Direction → ℕ → List ℕ → List ℕ → List ℕ → Type 0
RowsTurned q (Forward by) δ tables old new = ForwardRows q by δ tables old new
RowsTurned q Inverse δ tables old new = InverseRows q δ tables old new

-- place c of the first row of an inverse transform, out of its rows (algorithm 37 with m = 1): the sum of column c, times what by is the scaled form of
unfoldable pub first_row_at : ℕ → ℕ → ℕ → List ℕ → ℕ → ℕ
first_row_at q by δ rows c = sum δ (λ n. at rows (n * 256 + c)) * unscale q by % q

-- 2^32 is 1 modulo 5, so that 3 is the scaled form of 3: three times the 2 at place 1 of one row
first_row_at_example : first_row_at 5 3 1 (1 ∷ 2 ∷ []) 1 ≡ 1
unfolding first_row_at sums.sum scaled.unscale
first_row_at_example = refl
