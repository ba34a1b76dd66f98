-- A word as a number of 32 bits, its first byte the least significant: how the code holds columns and the key schedule.
-- Assumes nothing.
use Rattle.std.specs.Prelude.{◌≡◌, List, [], ◌∷◌, map, ℕ, zero, suc, ◌/◌, ◌%◌, ◌<◌, length}
use Rattle.maths.specs.Vector.{at}
use Rattle.aes_tables.specs.Field.{◌•◌}
use Rattle.aes_tables.specs.Substitution.{sbox}
use Rattle.aes_tables.specs.State.{four}

-- byte r of a word
unfoldable pub byte_of : ℕ → ℕ → ℕ
byte_of zero w = w % 256
byte_of (suc r) w = byte_of r (w / 256)

-- the word as its four bytes
abbrev pub word : ℕ → List ℕ
word w = four (λ r. byte_of r w)

-- four columns, each one number
abbrev pub columns : List ℕ → List (List ℕ)
columns s = four (λ c. word (at s c))

-- a key schedule, each word one number
abbrev pub schedule : List ℕ → List (List ℕ)
schedule keys = map word keys

-- a byte times the first column of the matrix of MixColumns, 2 1 1 3
unfoldable pub mixed_byte_of : ℕ → List ℕ
mixed_byte_of b = 2 • b ∷ b ∷ b ∷ 3 • b ∷ []

-- the substitution table
pub record SubstitutionTable (table : List ℕ) : Type 0 where
  pub entries : length table ≡ 256
  pub each : (b : ℕ) → b < 256 → at table b ≡ sbox b

-- the round table: substitution and MixColumns in one
pub record RoundTable (table : List ℕ) : Type 0 where
  pub entries : length table ≡ 256
  pub each : (b : ℕ) → b < 256 → word (at table b) ≡ mixed_byte_of (sbox b)
