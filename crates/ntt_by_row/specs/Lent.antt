-- The tables of a transform with δ rows of ρ numbers, ρ being 256 or 1 (003 section 3.2.2; 01, Bench).
-- Assumes nothing.
use Rattle.std.specs.Prelude.{◌≡◌, ◌⊎◌, List, ℕ, ◌+◌, ◌*◌, ◌^◌, ◌≤◌, ◌<◌, length}
use Rattle.maths.specs.Vector.{AllBelow}
use Rattle.maths.specs.Congruence.{Mod}
use Rattle.maths.specs.Root.{power_table}
use Rattle.calls.specs.Region.{region}
use Rattle.montgomery.specs.Scaled.{Odd}
use Rattle.ntt_tables.specs.Tables.{Ready, Tables}

-- the places of the tables: those of rows of 256 numbers, for which all others have room
abbrev pub lent_length : ℕ → ℕ → ℕ
lent_length ρ δ = δ * ρ + 264 + δ

-- the modulus and the sizes
pub record Sizes (q ρ δ : ℕ) : Type 0 where
  pub modulus : Odd q
  pub some_rows : 0 < δ
  pub few_rows : δ ≤ 16
  pub row : (ρ ≡ 256) ⊎ (ρ ≡ 1)

-- what the transforms ask of modulus, sizes and tables, whatever the root
pub record Lent (q ρ δ : ℕ) (tables : List ℕ) : Type 0 where
  pub sizes : Sizes q ρ δ
  pub size : length tables ≡ lent_length ρ δ
  pub wide : ρ ≡ 256 → Ready q δ tables
  pub powers_below : ρ ≡ 1 → AllBelow q δ tables

-- the first δ · ρ numbers are the powers of w, which has that order: half of it, where it is even, takes w to −1
pub record OrderedPowers (q ρ δ w : ℕ) (tables : List ℕ) : Type 0 where
  pub table : region tables 0 (δ * ρ) ≡ power_table q w (δ * ρ)
  pub whole : Mod q (w ^ (δ * ρ)) 1
  pub half : (n : ℕ) → 2 * n ≡ δ * ρ → Mod q (w ^ n + 1) 0

-- the tables of the root w
pub record TablesFor (q ρ δ w : ℕ) (tables : List ℕ) : Type 0 where
  pub wide : ρ ≡ 256 → Tables q δ w tables
  pub plain : ρ ≡ 1 → region tables 0 δ ≡ power_table q w δ
  pub whole : Mod q (w ^ (δ * ρ)) 1
