-- The transform of a row of 256 numbers, and the rows of a whole transform, forward and inverse (003 section 3.2.2; algorithm 36, the transforms of
-- length 256).
-- Assumes nothing.
use Rattle.std.specs.Prelude.{◌≡◌, List, ℕ, ◌*◌, ◌%◌, ◌<◌, length}
use Rattle.maths.specs.Vector.{at, AllBelow}
use Rattle.maths.specs.Congruence.{Mod}
use Rattle.maths.specs.Transform.{transform_at}
use Rattle.montgomery.specs.Scaled.{unscale}
use Rattle.ntt_tables.specs.Tables.{RowTables}

-- 256 numbers below 2 · q, and the 264 scaled powers of a row
pub record RowReady (q : ℕ) (tables from to : List ℕ) : Type 0 where
  pub tables_size : length tables ≡ 264
  pub tables_below : AllBelow q 264 tables
  pub from_size : length from ≡ 256
  pub from_below : AllBelow (2 * q) 256 from
  pub to_size : length to ≡ 256

-- the transform of a row, for any root v whose powers tables holds
pub record Row (q : ℕ) (tables from to : List ℕ) : Type 0 where
  pub values : (v : ℕ) → RowTables q v tables → (c : ℕ) → c < 256 → Mod q (at to c) (transform_at 256 v (at from) c)
  pub below : AllBelow (32 * q) 256 to

-- 256 numbers and 256 residues
pub record MultiplyReady (q : ℕ) (by from to : List ℕ) : Type 0 where
  pub by_size : length by ≡ 256
  pub by_below : AllBelow q 256 by
  pub from_size : length from ≡ 256
  pub to_size : length to ≡ 256

-- the products with what the residues are the scaled form of
pub record Multiplied (q : ℕ) (by from to : List ℕ) : Type 0 where
  pub values : (c : ℕ) → c < 256 → Mod q (at to c) (at from c * unscale q (at by c))
  pub below : AllBelow (2 * q) 256 to

-- a row of 256 numbers of 32 bits, the powers of its twist, those of the row, and the factor at the end
pub record ForwardReady (q by : ℕ) (twist tables x : List ℕ) : Type 0 where
  pub by_below : by < q
  pub twist_size : length twist ≡ 256
  pub twist_below : AllBelow q 256 twist
  pub tables_size : length tables ≡ 264
  pub tables_below : AllBelow q 264 tables
  pub size : length x ≡ 256

-- the twist, the transform and the residues
pub record ForwardRow (q by : ℕ) (twist tables old new : List ℕ) : Type 0 where
  pub values : (v : ℕ) → RowTables q v tables → (c : ℕ) → c < 256
      → at new c ≡ transform_at 256 v (λ j. at old j * unscale q (at twist j)) c * unscale q by % q

-- a row of 256 numbers below 2 · q, the powers of its twist and those of the row
pub record InverseReady (q : ℕ) (twist tables x : List ℕ) : Type 0 where
  pub twist_size : length twist ≡ 256
  pub twist_below : AllBelow q 256 twist
  pub tables_size : length tables ≡ 264
  pub tables_below : AllBelow q 264 tables
  pub size : length x ≡ 256
  pub below : AllBelow (2 * q) 256 x

-- the transform and the twist
pub record InverseRow (q : ℕ) (twist tables old new : List ℕ) : Type 0 where
  pub values : (v : ℕ) → RowTables q v tables → (c : ℕ) → c < 256 → Mod q (at new c) (transform_at 256 v (at old) c * unscale q (at twist c))
  pub below : AllBelow (2 * q) 256 new
